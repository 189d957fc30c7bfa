-- Forms with a function make values of the types that the tables of types say, or faults.
use Rattle.std.proofs.Common.{◌≡◌, cond, Some, sym, ap, subst, ◌∙◌}
use Rattle.std.specs.Prelude.{Option}
use Rattle.sf_value.specs.Values.{KeyKind, Kind, bool_kind, pair_kind, event_kind, KeyData, Data, event, no_event, Rows, HasKind, has_int, has_text, has_pair, has_no_event, has_event, HasKeyKind, has_int_key, has_text_key, HasRowKinds, has_no_rows, has_row}
use Rattle.sf_operator.specs.declared.operator.Mapping.TheVariants as mapping
use Rattle.sf_operator.specs.declared.operator.Folding.TheVariants as folding
use Rattle.sf_operator.specs.Outcomes.{Evaluated, answer, ◌>>=◌, known}
use Rattle.sf_operator.specs.Answers.{Yields, yields, fails}
use Rattle.sf_operator.specs.Kinds.{kind_of_keys, only, payload_of, columns_of}
use Rattle.sf_operator.specs.Operations.{payload_held}
use Rattle.sf_operator.specs.FunctionForms.{kept_payload, mapped_payload, matched_payload, merged_by, value_of_key, folded_rows}
use Rattle.sf_operator.specs.Laws.{EachMappingYields, EachFoldingYields}
use Rattle.sf_operator.proofs.SameKinds.{only_is, found_is, payload_is, columns_is}
use Rattle.sf_operator.proofs.Yielding.{as_kind, yields_as, of_truth, HasPayload, has_none, has_some, of_payload, of_rows, event_has, gated_has}

-- what is done with an answer of a type
pub and_yields : {t u : Kind} {o : Evaluated Data} {f : Data → Evaluated Data} → Yields t o → ((d : Data) → HasKind d t → Yields u (f d)) → Yields u (o >>= f)
and_yields (yields h) k = k _ h
and_yields fails k = fails

kept_yields : {a u : Kind} {e : Option Data} (f : Data → Evaluated Data) → u ≡ bool_kind → HasPayload a e → ((x : Data) → HasKind x a → Yields u (f x)) → Yields (event_kind a) (kept_payload e f)
kept_yields f is has_none k = yields has_no_event
kept_yields f is (has_some {x = x} h) k = and_yields (k x h) (λ b q. of_truth (λ c. answer (cond c (event x) no_event)) is q (λ c. yields (gated_has c (has_event h))))

payload_yields : {a u : Kind} {e : Option Data} (f : Data → Evaluated Data) → HasPayload a e → ((x : Data) → HasKind x a → Yields u (f x)) → Yields (event_kind u) (mapped_payload e f)
payload_yields f has_none k = yields has_no_event
payload_yields f (has_some {x = x} h) k = and_yields (k x h) (λ y q. yields (has_event q))

pub mapping_yields : EachMappingYields
mapping_yields mapping.Let t a u v d f h e g k = let is : t ≡ a = cc in yields_as g (k d (as_kind is h))
mapping_yields mapping.Filter t a u v d f h e g k =
    let same = only_is u bool_kind (Some t) g in
    let of = payload_is t e in
    yields_as (ap (λ (t : Kind). Some t) (sym of) ∙ same.1) (of_payload (λ p. kept_payload p f) of h (λ p q. kept_yields f same.0 q k))
mapping_yields mapping.Map t a u v d f h e g k = yields_as g (of_payload (λ p. mapped_payload p f) (payload_is t e) h (λ p q. payload_yields f q k))

matched_yields : {a u : Kind} {e : Option Data} {other : Evaluated Data} (f : Data → Evaluated Data) → HasPayload a e → Yields u other → ((x : Data) → HasKind x a → Yields u (f x)) → Yields u (matched_payload e other f)
matched_yields f has_none l k = l
matched_yields f (has_some {x = x} h) l k = k x h

merged_by_yields : {a b v : Kind} {p q : Option Data} (f : Data → Evaluated Data) → b ≡ v → pair_kind b b ≡ a → HasPayload b p → HasPayload b q → ((x : Data) → HasKind x a → Yields v (f x)) → Yields (event_kind b) (merged_by p q f)
merged_by_yields f is of has_none h k = yields (event_has h)
merged_by_yields f is of (has_some h) has_none k = yields (has_event h)
merged_by_yields f is of (has_some h) (has_some l) k = and_yields (k _ (as_kind of (has_pair h l))) (λ z q. yields (has_event (as_kind (sym is) q)))

pub key_has : {l : KeyData} {k : KeyKind} → HasKeyKind l k → HasKind (value_of_key l) (kind_of_keys k)
key_has (has_int_key n) = has_int n
key_has (has_text_key n) = has_text n

rows_yield : {rs : Rows} {l : KeyKind} {a u : Kind} {d : Data} (f : Data → Evaluated Data) → HasRowKinds rs l a → HasKind d u → ((x : Data) → HasKind x (pair_kind u (pair_kind (kind_of_keys l) a)) → Yields u (f x)) → Yields u (folded_rows rs d f)
rows_yield f has_no_rows h k = yields h
rows_yield f (has_row i p more) h k = and_yields (k _ (has_pair h (has_pair (key_has i) p))) (λ c q. rows_yield f more q k)

pub folding_yields : EachFoldingYields
folding_yields folding.Match t u a v w d other f h l e g k =
    let same = only_is u v (Some v) g in
    yields_as same.1 (of_payload (λ p. matched_payload p other f) (payload_is t e) h (λ p q. matched_yields f q (subst (λ (u : Kind). Yields u other) same.0 l) k))
folding_yields folding.Merge t u a v w d other f h l e g k =
    let found = found_is (payload_of t) (λ b. Some (pair_kind b b)) e in
    let made = found_is (payload_of t) (λ b. only t u (only b v (Some t))) g in
    let one : made.0 ≡ found.0 = let both : Some made.0 ≡ Some found.0 = sym made.1 ∙ found.1 in cc in
    let first = only_is t u (only made.0 v (Some t)) made.2 in
    let second = only_is made.0 v (Some t) first.1 in
    let of = payload_is t found.1 in
    let argument : pair_kind found.0 found.0 ≡ a = let is = found.2 in cc in
    yields_as (ap (λ (t : Kind). Some t) (sym of) ∙ second.1)
    (and_yields l (λ c q. of_payload (λ p. known (payload_held c) (λ s. merged_by p s f)) of h (λ p r.
    of_payload (λ s. merged_by p s f) (sym first.0 ∙ of) q (λ s m. merged_by_yields f (sym one ∙ second.0) argument r m k))))
folding_yields folding.Fold t u a v w d other f h l e g k =
    let found = found_is (columns_of t) (λ c. Some (pair_kind u (pair_kind (kind_of_keys c.0) c.1))) e in
    let same = only_is u v (Some u) g in
    let argument : pair_kind u (pair_kind (kind_of_keys found.0.0) found.0.1) ≡ a = let is = found.2 in cc in
    yields_as same.1
    (and_yields l (λ c q. of_rows (λ rs. folded_rows rs c f) (columns_is t found.1) h (λ rs r.
    rows_yield f r q (λ x p. subst (λ (v : Kind). Yields v (f x)) (sym same.0) (k x (as_kind argument p))))))
