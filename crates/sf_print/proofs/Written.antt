-- What tokens are appended as is their text.
use Rattle.std.proofs.Common.{◌≡◌, Bool, true, false, ◌||◌, ◌&&◌, not, cond, List, [], ◌∷◌, ◌++◌, ℕ, refl, sym, ap, ◌∙◌, append_assoc}
use Rattle.std.proofs.lemmas.List.{append-nil}
use Rattle.sf_lex.specs.Tokens.{Tok}
use Rattle.sf_print.specs.declared.draft.Last.{Last}
use Rattle.sf_print.specs.declared.draft.Last.TheVariants as lasts
use Rattle.sf_print.specs.Canonical.{token_bytes, has_own_brackets, opens, closes, is_round, ends_line, gap_before, text_of}
use Rattle.sf_print.specs.Drafts.{Front, as_last, is_spaced, space, line_end, append_token, append_tokens}

-- the space in front of the first of some tokens
abbrev lead : Last → List Tok → List ℕ
lead l [] = []
lead l (t ∷ ts) = space (is_spaced l t)

-- a gap from what is known of its tokens
abbrev gap_by : (ends opening head closing round : Bool) → List ℕ
gap_by ends opening head closing round = cond ends (10 ∷ []) (cond (opening || (closing || (head && round))) [] (32 ∷ []))

abbrev last_by : (ends opening head : Bool) → Last
last_by ends opening head = cond (ends || opening) lasts.Opening (cond head lasts.Head lasts.Other)

abbrev spaced_by : Last → (closing round : Bool) → Bool
spaced_by lasts.Opening c r = false
spaced_by lasts.Head c r = not (c || r)
spaced_by lasts.Other c r = not c

gaps : (ends opening head closing round : Bool) → line_end ends ++ space (spaced_by (last_by ends opening head) closing round) ≡ gap_by ends opening head closing round
gaps true o h c r = refl
gaps false true h c r = refl
gaps false false true true r = refl
gaps false false true false true = refl
gaps false false true false false = refl
gaps false false false true r = refl
gaps false false false false r = refl

spaced_is : (l : Last) (u : Tok) → is_spaced l u ≡ spaced_by l (closes u) (is_round u)
spaced_is lasts.Opening u = refl
spaced_is lasts.Head u = refl
spaced_is lasts.Other u = refl

gap_is : (t : Tok) (ts : List Tok) → line_end (ends_line t) ++ lead (as_last t) ts ≡ gap_before t ts
gap_is t [] = append-nil (line_end (ends_line t))
gap_is t (u ∷ ts) = ap (λ b. line_end (ends_line t) ++ space b) (spaced_is (as_last t) u) ∙ gaps (ends_line t) (opens t) (has_own_brackets t) (closes u) (is_round u)

regroup : (a b c d e f : List ℕ) → (a ++ (b ++ (c ++ d))) ++ (e ++ f) ≡ a ++ (b ++ (c ++ ((d ++ e) ++ f)))
regroup a b c d e f = simp append_assoc

written : (d : Front) (ts : List Tok) → (append_tokens d ts).bytes ≡ d.bytes ++ (lead d.last ts ++ text_of ts)
unfolding append_token
written d [] = sym (append-nil d.bytes)
written d (t ∷ ts) =
    written (append_token d t) ts ∙ regroup d.bytes (space (is_spaced d.last t)) (token_bytes t) (line_end (ends_line t)) (lead (as_last t) ts) (text_of ts)
    ∙ ap (λ g. d.bytes ++ (space (is_spaced d.last t) ++ (token_bytes t ++ (g ++ text_of ts)))) (gap_is t ts)

led : (ts : List Tok) → lead lasts.Opening ts ≡ []
led [] = refl
led (t ∷ ts) = refl

-- from the front without a token on
pub put_text : (d : Front) (ts : List Tok) → d ≡ record { bytes = []; last = lasts.Opening } → (append_tokens d ts).bytes ≡ text_of ts
put_text d ts e = ap (λ x. (append_tokens x ts).bytes) e ∙ written (record { bytes = []; last = lasts.Opening }) ts ∙ ap (λ g. g ++ text_of ts) (led ts)
