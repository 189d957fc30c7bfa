-- Templates at the places of their names.
use Rattle.std.proofs.Common.{◌≡◌, ℕ, [], ◌∷◌, Bool, true, false, cond, Option, Some, slice_get, position, map, ap, ◌∙◌, sym, refl}
use Rattle.std.specs.Option.{option_map}
use Rattle.std.specs.Str.{bytes_eq}
use Rattle.sf_value.specs.Values.{Name}
use Rattle.sf_term.specs.Trees.{Template, Templates}
use Rattle.sf_mean.specs.Networks.{template_named}
use Rattle.sf_mean.specs.Contexts.{signature_of, signature_named}
use Rattle.sf_term.specs.declared.program.Program.{Program}
use Rattle.sf_term.specs.Headers.{Header}
use Rattle.sf_term.specs.Arena.{headers_of}
use Rattle.sf_check.specs.Names.{program_names, IsHeaderNamed}
pub use Rattle.sf_reach.proofs.Named.{place_in, named_at, none_named, named_within, named_is}
use Rattle.sf_reach.proofs.Named.{name_is}

-- the template at the place of a name
module _ (p : Program) (x : Name) (i : ℕ) (place : position (bytes_eq x) (program_names p) ≡ Some i) where
  pub header_named : (h : Header) → slice_get (headers_of p) i ≡ Some h → IsHeaderNamed p x h
  header_named h at = record { place = i; at = at; named = name_is p x i place h at }

-- ## Signatures

-- the signature of a name is that of the template of the name
signature_found : (x : Name) (ts : Templates) → signature_named x (map signature_of ts) ≡ option_map signature_of (template_named x ts)
signature_found x [] = refl
signature_found x (t ∷ ts) = each (bytes_eq x t.name) (signature_found x ts)
  where
    each : (b : Bool) → signature_named x (map signature_of ts) ≡ option_map signature_of (template_named x ts)
        → cond b (Some (signature_of t)) (signature_named x (map signature_of ts)) ≡ option_map signature_of (cond b (Some t) (template_named x ts))
    each true rest = refl
    each false rest = rest

pub signature_is : (x : Name) (ts : Templates) {o : Option Template} → o ≡ template_named x ts → signature_named x (map signature_of ts) ≡ option_map signature_of o
signature_is x ts e = signature_found x ts ∙ ap (option_map signature_of) (sym e)
