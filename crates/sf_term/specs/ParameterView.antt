-- What parameters in code stand for, and how it is stored.
use Rattle.std.specs.Prelude.{◌≡◌, Option, Some, None, refl}
use Rattle.std.specs.Coded.{Coded, code_by, coded_option, coded×}
use Rattle.sf_value.specs.Values.{Kind, unit_kind, table_kind}
use Rattle.sf_value.specs.KindView.{key_kind_of}
use Rattle.sf_term.specs.declared.template.ParameterForm.{ParameterForm}
use Rattle.sf_term.specs.declared.template.ParameterForm.TheVariants.{Value, Process, Collection}
use Rattle.sf_term.specs.Parameters.{NameKind, value, process, collection}

-- what a parameter of a form stands for
abbrev pub kind_of_form : ParameterForm → NameKind
kind_of_form (Value t) = value t
kind_of_form (Process a b) = process a b
kind_of_form (Collection k a b) = collection (key_kind_of k) a b

-- the type of a value, or both types of a process; and of a collection also that of tables with its keys
abbrev pub name_kind_code : NameKind → Kind × Option (Kind × Option Kind)
name_kind_code (value t) = (t, None)
name_kind_code (process a b) = (a, Some (b, None))
name_kind_code (collection k a b) = (a, Some (b, Some (table_kind k unit_kind)))

abbrev pub name_kind_from : Kind × Option (Kind × Option Kind) → NameKind
name_kind_from (t, None) = value t
name_kind_from (a, Some (b, Some (table_kind k t))) = collection k a b
name_kind_from (a, Some (b, o)) = process a b

pub name_kind_from-code : (k : NameKind) → name_kind_from (name_kind_code k) ≡ k
name_kind_from-code (value t) = refl
name_kind_from-code (process a b) = refl
name_kind_from-code (collection k a b) = refl

-- what a name stands for is stored by its types
abbrev pub coded_name_kind : Coded Kind → Coded NameKind
coded_name_kind c = code_by (Kind × Option (Kind × Option Kind)) (coded× c (coded_option (coded× c (coded_option c)))) name_kind_code name_kind_from name_kind_from-code
