use Rattle.std.proofs.Common.{◌≡◌, ◌∙◌, refl, sym, ap, subst, length, rules, w64, String, Global}
use Rattle.std.specs.Prelude.{FitsSigned, nat_eq, string_bytes}
use Rattle.std.proofs.lemmas.Int.{to_z-of_z}
use Rattle.sf_value.specs.View.{key_of}
use Rattle.sf_value.specs.Values.{number_key, text_key}
use Rattle.sf_value.specs.Indexes.{placed}
use Rattle.sf_value.proofs.Indexes.{Puts, put_number, put_text, seen_put, length_keys}
use Rattle.sf_value.proofs.index.Index.insert.Goals as goal

-- what the index is after a number
number_put : (c : goal.In_ok-place_of-in-Int) → Puts (number_key c.in-Int.n) (placed c.self.inside.numbers.entries c.self.inside.texts.entries) (placed c.place_of.new.places.entries c.self.inside.texts.entries) (nat_eq c.in_ok-place_of-in-Int.field-0 c.len-place.result)
number_put c =
    let fits : FitsSigned w64 c.in-Int.n = search rules in
    put_number c.self.inside.numbers.entries _ c.self.inside.texts.entries c.in-Int.n _ c.len-place.result c.in_ok-place_of-in-Int.field-0 (to_z-of_z w64 c.in-Int.n fits) c.self.invariant
    (c.len-place.ensures.len ∙ ap length (sym c.self.view_is) ∙ length_keys _) c.in_ok-place_of-in-Int.ensures.place c.in_ok-place_of-in-Int.ensures.places

pub invariant_of-self-in-Int : goal.invariant_of-self-in-Int
invariant_of-self-in-Int c = (number_put c).index

pub returns-in_ok-place_of-in-Int-clause-added : goal.returns-in_ok-place_of-in-Int-clause-added
returns-in_ok-place_of-in-Int-clause-added c = (seen_put _ (key_of c.args.key.now) _ _ _ c.args.self.now (number_put c) (ap key_of (sym c.in-Int.is)) c.self.view_is).0

pub returns-in_ok-place_of-in-Int-clause-keys : goal.returns-in_ok-place_of-in-Int-clause-keys
returns-in_ok-place_of-in-Int-clause-keys c = (seen_put _ (key_of c.args.key.now) _ _ _ c.args.self.now (number_put c) (ap key_of (sym c.in-Int.is)) c.self.view_is).1

-- what it is after a text
text_put : (c : goal.In_ok-place_of-in-Text) → Puts (key_of c.args.key.now) (placed c.self.inside.numbers.entries c.self.inside.texts.entries) (placed c.self.inside.numbers.entries c.place_of-in-Text.new.places.entries)
    (nat_eq c.in_ok-place_of-in-Text.field-0 c.len-place.result)
text_put c =
    let copied : c.in_ok-clone-in-Text.field-0.value ≡ c.in-Text.s.value = search rules in
    let same : text_key (string_bytes c.in_ok-clone-in-Text.field-0.value) ≡ key_of c.args.key.now = ap (λ (v : String Global). text_key (string_bytes v)) copied ∙ ap key_of (sym c.in-Text.is) in
    subst (λ k. Puts k (placed c.self.inside.numbers.entries c.self.inside.texts.entries) (placed c.self.inside.numbers.entries c.place_of-in-Text.new.places.entries) (nat_eq c.in_ok-place_of-in-Text.field-0 c.len-place.result)) same
    (put_text c.self.inside.numbers.entries c.self.inside.texts.entries _ c.in_ok-clone-in-Text.field-0 c.len-place.result c.in_ok-place_of-in-Text.field-0 c.self.invariant
    (c.len-place.ensures.len ∙ ap length (sym c.self.view_is) ∙ length_keys _) c.in_ok-place_of-in-Text.ensures.place c.in_ok-place_of-in-Text.ensures.places)

pub invariant_of-self-in-Text : goal.invariant_of-self-in-Text
invariant_of-self-in-Text c = (text_put c).index

pub returns-in_ok-place_of-in-Text-clause-added : goal.returns-in_ok-place_of-in-Text-clause-added
returns-in_ok-place_of-in-Text-clause-added c = (seen_put _ _ _ _ _ c.args.self.now (text_put c) refl c.self.view_is).0

pub returns-in_ok-place_of-in-Text-clause-keys : goal.returns-in_ok-place_of-in-Text-clause-keys
returns-in_ok-place_of-in-Text-clause-keys c = (seen_put _ _ _ _ _ c.args.self.now (text_put c) refl c.self.view_is).1
