-- Streams and their lines.
use Rattle.std.proofs.Common.{◌≡◌, ◌≢◌, ℕ, cond, eqb, List, [], ◌∷◌, ◌++◌, refl, ◌∙◌, ap, append_assoc, arith, flat_map, All}
use Rattle.std.proofs.lemmas.List.{append-nil}
use Rattle.std.proofs.lemmas.Grind.{flat_map-append}
use Rattle.std.proofs.lemmas.List.Elements.{All-head, All-tail, All-append, All-push, All-nil}
use Rattle.std.proofs.lemmas.Bool.Decides.{nat_tests}
use Rattle.std.specs.List.{onto_first}
use Rattle.sf_lines.specs.Lines.{NoFeed, Splits, ended, lines_of}

at_other : {X : Type 0} (b : ℕ) (x y : X) → b ≢ 10 → cond (eqb b 10) x y ≡ y
at_other b x y h = grind (arith, nat_tests)

-- a line with its line feed is the first line
pub lines_of-line : (line bytes : List ℕ) → NoFeed line → lines_of (line ++ 10 ∷ bytes) ≡ line ∷ lines_of bytes
lines_of-line [] bytes h = refl
lines_of-line (b ∷ line) bytes h =
    at_other b _ _ (All-head (λ x. x ≢ 10) b line h) ∙ ap (onto_first b) (lines_of-line line bytes (All-tail (λ x. x ≢ 10) b line h))

pub lines_of-lines : (lines : List (List ℕ)) (bytes : List ℕ) → All NoFeed lines → lines_of (flat_map ended lines ++ bytes) ≡ lines ++ lines_of bytes
lines_of-lines [] bytes h = refl
lines_of-lines (line ∷ lines) bytes h =
    ap lines_of (append_assoc (line ++ 10 ∷ []) (flat_map ended lines) bytes ∙ append_assoc line (10 ∷ []) (flat_map ended lines ++ bytes))
    ∙ lines_of-line line (flat_map ended lines ++ bytes) (All-head NoFeed line lines h)
    ∙ ap (λ z. line ∷ z) (lines_of-lines lines bytes (All-tail NoFeed line lines h))

-- what follows the lines of a stream goes onto its unfinished line
pub lines_of-splits : (stream : List ℕ) (lines : List (List ℕ)) (rest more : List ℕ) → Splits stream lines rest → lines_of (stream ++ more) ≡ lines ++ lines_of (rest ++ more)
lines_of-splits stream lines rest more s =
    ap (λ z. lines_of (z ++ more)) s.whole ∙ ap lines_of (append_assoc (flat_map ended lines) rest more) ∙ lines_of-lines lines (rest ++ more) s.each

-- bytes without a line feed are one line, unless there are none
pub lines_of-unfinished : (b : ℕ) (bytes : List ℕ) → NoFeed (b ∷ bytes) → lines_of (b ∷ bytes) ≡ (b ∷ bytes) ∷ []
lines_of-unfinished b [] h = at_other b _ _ (All-head (λ x. x ≢ 10) b [] h)
lines_of-unfinished b (c ∷ bytes) h =
    at_other b _ _ (All-head (λ x. x ≢ 10) b (c ∷ bytes) h) ∙ ap (onto_first b) (lines_of-unfinished c bytes (All-tail (λ x. x ≢ 10) b (c ∷ bytes) h))

pub Splits-nil : Splits [] [] []
Splits-nil = record { whole = refl; each = All-nil NoFeed; unfinished = All-nil (λ x. x ≢ 10) }

pub Splits-grow : (stream : List ℕ) (lines : List (List ℕ)) (rest more : List ℕ) → Splits stream lines rest → NoFeed more → Splits (stream ++ more) lines (rest ++ more)
Splits-grow stream lines rest more s h = record {
  whole = ap (λ z. z ++ more) s.whole ∙ append_assoc (flat_map ended lines) rest more;
  each = s.each;
  unfinished = All-append (λ x. x ≢ 10) rest more s.unfinished h;
}

pub Splits-line : (stream : List ℕ) (lines : List (List ℕ)) (rest body : List ℕ) → Splits stream lines rest → NoFeed body → Splits (stream ++ (body ++ 10 ∷ [])) (lines ++ (rest ++ body) ∷ []) []
Splits-line stream lines rest body s h = record {
  whole = ap (λ z. z ++ (body ++ 10 ∷ [])) s.whole
      ∙ simp (flat_map-append, append_assoc, append-nil);
  each = All-push NoFeed lines (rest ++ body) s.each (All-append (λ x. x ≢ 10) rest body s.unfinished h);
  unfinished = All-nil (λ x. x ≢ 10);
}

onto_some : (b : ℕ) (lines : List (List ℕ)) → (line : List ℕ) × (others : List (List ℕ)) × (onto_first b lines ≡ (b ∷ line) ∷ others)
onto_some b [] = ([], [], refl)
onto_some b (line ∷ lines) = (line, lines, refl)

-- the first line of bytes that begin with so many without a line feed begins with them
pub first_long : (front more : List ℕ) (b : ℕ) → NoFeed (b ∷ front) → (line : List ℕ) × (lines : List (List ℕ)) × (lines_of ((b ∷ front) ++ more) ≡ ((b ∷ front) ++ line) ∷ lines)
first_long [] more b h =
    let r = onto_some b (lines_of more) in
    (r.0, r.1, at_other b _ _ (All-head (λ x. x ≢ 10) b [] h) ∙ r.2)
first_long (c ∷ front) more b h =
    let r = first_long front more c (All-tail (λ x. x ≢ 10) b (c ∷ front) h) in
    (r.0, r.1, at_other b _ _ (All-head (λ x. x ≢ 10) b (c ∷ front) h) ∙ ap (onto_first b) r.2)
