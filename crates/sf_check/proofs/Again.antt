-- The first name in headers that is one before it.
use Rattle.std.proofs.Common.{◌≡◌, ℕ, ◌+◌, ◌<◌, ◌≤◌, length, List, [], ◌∷◌, ◌++◌, true, false, Option, Some, slice_get, ap, ◌∙◌, sym, subst, arith, inl, inr}
use Rattle.std.specs.List.{list_any}
use Rattle.std.specs.Str.{bytes_eq}
use Rattle.std.proofs.lemmas.Option.{slice_get_within, same_Some}
use Rattle.sf_value.specs.Values.{Name}
use Rattle.sf_refusal.specs.declared.spot.Spot.{Spot}
use Rattle.sf_refusal.specs.declared.rule.Rule.TheVariants.{DuplicateName}
use Rattle.sf_refusal.specs.declared.refusal.Refusal.{Refusal}
use Rattle.sf_refusal.specs.Refusals.{OrMemory, breach_of}
use Rattle.sf_refusal.proofs.Explained.{or_memory}
use Rattle.sf_term.specs.declared.program.Program.{Program}
use Rattle.sf_term.specs.Headers.{Header}
use Rattle.sf_term.specs.Parameters.{PlacedParameter, parameters_of}
use Rattle.sf_term.specs.Arena.{headers_of}
use Rattle.sf_check.specs.Names.{program_names, parameter_names, parameter_spots, AreDifferent, NamesDiffer, IsFirstRepeat, name_repeats, parameter_repeats, IsFirstNameAgain}
use Rattle.sf_check.proofs.Templates.{lt_or_eq, name_at}
use Rattle.sf_check.proofs.Naming.{Named, one_more, new_name, repeats_name, repeated, all_named, parameter_name_at, parameter_spot_at, templates_counted}

-- a name at a spot is one of these
abbrev pub IsOld : Name → List Name → Spot → Refusal → Type 0
IsOld x ns s e = OrMemory (λ b. (b ≡ breach_of DuplicateName s) × (list_any (bytes_eq x) ns ≡ true)) e

-- a name, moved along equations
named_here : {o : Option Name} {x y : Name} → o ≡ Some y → x ≡ y → o ≡ Some x
named_here at e = at ∙ ap Some (sym e)

module _ (qs : List PlacedParameter) (i : ℕ) (q : PlacedParameter) (at : slice_get qs i ≡ Some q) (ns : List Name) (named : Named (parameter_names (parameters_of qs)) ns i) (x : Name) (is : x ≡ q.name) where
  pub parameter_more : list_any (bytes_eq x) ns ≡ false → Named (parameter_names (parameters_of qs)) (ns ++ x ∷ []) (i + 1)
  parameter_more new = one_more (parameter_names (parameters_of qs)) ns i x named (named_here (parameter_name_at qs i q at) is) new

  pub parameter_refused : (s : Spot) (e : Refusal) → s ≡ q.spot → IsOld x ns s e → OrMemory (λ b. (s : Spot) × (b ≡ breach_of DuplicateName s) × IsFirstRepeat (parameter_names (parameters_of qs)) (parameter_spots qs) s) e
  parameter_refused s e placed h =
      or_memory (λ b k. (s, k.0, repeated (parameter_names (parameters_of qs)) ns i x named (named_here (parameter_name_at qs i q at) is) (parameter_spots qs) s k.1 (parameter_spot_at qs i q at ∙ ap Some (sym placed)))) h

-- The names in the first headers differ.
pub record HeadersNamed (p : Program) (ns : List Name) (n : ℕ) : Type 0 where
  pub named : Named (program_names p) ns n
  pub parameters : (i : ℕ) (h : Header) → i < n → slice_get (headers_of p) i ≡ Some h → AreDifferent (parameter_names (parameters_of h.parameters))

module _ (p : Program) (n : ℕ) (h : Header) (at : slice_get (headers_of p) n ≡ Some h) (ns : List Name) (so : HeadersNamed p ns n) (x : Name) (is : x ≡ h.name) where
  here : slice_get (program_names p) n ≡ Some x
  here = named_here (name_at p n h at) is

  pub header_more : list_any (bytes_eq x) ns ≡ false → AreDifferent (parameter_names (parameters_of h.parameters)) → HeadersNamed p (ns ++ x ∷ []) (n + 1)
  header_more new apart = record {
    named = one_more (program_names p) ns n x so.named here new;
    parameters = λ i g below at'. elim (lt_or_eq i n below) [
      | inl before ↦ so.parameters i g before at'
      | inr same ↦ subst (λ (h : Header). AreDifferent (parameter_names (parameters_of h.parameters))) (same_Some _ _ (sym at ∙ ap (slice_get (headers_of p)) (sym same) ∙ at')) apart
    ];
  }

  pub name_again : (s : Spot) (e : Refusal) → s ≡ h.spot → IsOld x ns s e → OrMemory (λ b. (s : Spot) × (b ≡ breach_of DuplicateName s) × IsFirstNameAgain p s) e
  name_again s e placed k = or_memory (λ b j. (
    h.spot,
    j.0 ∙ ap (breach_of DuplicateName) placed,
    record {
      place = n;
      header = h;
      at = at;
      before = λ i l. (so.named.different i l, λ g at'. so.parameters i g l at');
      again = name_repeats (repeats_name (program_names p) ns n x so.named here j.1);
    },
  )) k

  pub parameter_again : (e : Refusal) → list_any (bytes_eq x) ns ≡ false → OrMemory (λ b. (s : Spot) × (b ≡ breach_of DuplicateName s) × IsFirstRepeat (parameter_names (parameters_of h.parameters)) (parameter_spots h.parameters) s) e
      → OrMemory (λ b. (s : Spot) × (b ≡ breach_of DuplicateName s) × IsFirstNameAgain p s) e
  parameter_again e new k = or_memory (λ b j. (
    j.0,
    j.1,
    record {
      place = n;
      header = h;
      at = at;
      before = λ i l. (so.named.different i l, λ g at'. so.parameters i g l at');
      again = parameter_repeats (new_name (program_names p) ns n x so.named here new) j.2;
    },
  )) k

-- all do, once all headers were looked at
pub all_headers : (p : Program) (ns : List Name) (n : ℕ) → HeadersNamed p ns n → length (headers_of p) ≤ n → NamesDiffer p
all_headers p ns n so most = record {
  templates = let count = templates_counted p in (all_named (program_names p) ns n so.named (omega arith)).1;
  parameters = λ i h at. let within = slice_get_within (headers_of p) i h at in so.parameters i h (omega arith) at;
}

pub all_names : (p : Program) (ns : List Name) (n : ℕ) → HeadersNamed p ns n → length (headers_of p) ≤ n → ns ≡ program_names p
all_names p ns n so most = let count = templates_counted p in (all_named (program_names p) ns n so.named (omega arith)).0
