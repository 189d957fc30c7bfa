-- What a cutter's steps make of the streams that it stands for.
use Rattle.std.proofs.Common.{All, ◌≡◌, ◌≢◌, ℕ, ◌+◌, ◌<◌, ◌≤◌, Bool, true, false, cond, List, [], ◌∷◌, ◌++◌, length, take, drop, Some, None, Ok, refl, sym, ◌∙◌, ap, subst, append_assoc, arith, rules, ◌==◌, vec_len}
use Rattle.std.proofs.lemmas.List.{append-nil, take-append-drop, length-append, length-take}
use Rattle.std.proofs.lemmas.List.Elements.{All-head, All-tail, All-append, All-nil, All-push}
use Rattle.std.proofs.lemmas.Bool.Decides.{nat_tests}
use Rattle.sf_lines.specs.declared.cutter.Cutter.{Cutter}
use Rattle.sf_lines.specs.declared.cutter.State.{State}
use Rattle.sf_lines.specs.declared.cutter.State.TheVariants.{Unfinished, Complete, Refused}
use Rattle.sf_lines.specs.declared.cutter.Cut.{Cut}
use Rattle.sf_lines.specs.declared.cutter.Cut.TheVariants.{Whole, Line, Part}
use Rattle.sf_lines.specs.declared.refusal.LineRefusal.{LineRefusal}
use Rattle.sf_lines.specs.declared.refusal.LineRefusal.TheVariants.{BadLine, LineTooLong, TooManyLines, NotStarted, Started, BadStep, BadValue, OutOfRange, DuplicateKey, NoSave, TooManySaves, Memory}
use Rattle.std.specs.List.{onto_first}
use Rattle.sf_lines.specs.Lines.{NoFeed, Splits, lines_of}
use Rattle.sf_lines.specs.Limits.{limit_refusal, RefusesNext}
use Rattle.sf_lines.specs.Cutting.{pending, line_of, lines_taken, refused_at, unfinished_at, complete_at, Grows, Completes, FindsWhole, Passes, IsTooMany, CutRefused, CutsPiece, Ends}
use Rattle.sf_lines.specs.Standing.{CutterStands, TakesPiece, TakesBytes, Finishes, FinishesBytes, CompletesLine}
use Rattle.sf_lines.proofs.Splitting.{lines_of-splits, Splits-grow, Splits-line, first_long, lines_of-unfinished}

-- the bytes held are as many as the vector says
held-length : (c : Cutter) → length c.held.items ≡ vec_len c.held
held-length c = search rules

-- the unfinished line has at most 65,536 bytes
pub pending-short : (c : Cutter) → length (pending c) ≤ 65536
pending-short c = at c.state c.held.items (omega (arith, held-length c, c.short))
  where
    at : (s : State) (held : List ℕ) → length held ≤ 65536 → length (unfinished_at s held) ≤ 65536
    at Unfinished held h = h
    at Complete held h = omega arith
    at (Refused r) held h = omega arith

-- and so has the complete one
pub line_of-short : (c : Cutter) → length (line_of c) ≤ 65536
line_of-short c = at c.state c.held.items (omega (arith, held-length c, c.short))
  where
    at : (s : State) (held : List ℕ) → length held ≤ 65536 → length (complete_at s held) ≤ 65536
    at Unfinished held h = omega arith
    at Complete held h = h
    at (Refused r) held h = omega arith

-- no more than 1,000,000 lines are completed
pub lines_taken-few : (c : Cutter) → lines_taken c ≤ 1000000
lines_taken-few c = c.few

-- behind the last line that may be no bytes are held
pub pending-last : (c : Cutter) → lines_taken c ≡ 1000000 → pending c ≡ []
pending-last c full = at c.state c.held.items (λ many open_still. held-length c ∙ c.last many open_still)
  where
    none : (held : List ℕ) → length held ≡ 0 → held ≡ []
    none [] h = refl
    none (x ∷ held) h = absurd (omega arith)

    at : (s : State) (held : List ℕ) → (lines_taken c ≡ 1000000 → s ≡ Unfinished → length held ≡ 0) → unfinished_at s held ≡ []
    at Unfinished held h = none held (h full refl)
    at Complete held h = refl
    at (Refused r) held h = refl

fresh_at : (c : Cutter) → c.state ≡ Complete → pending c ≡ []
fresh_at c e = ap (λ s. unfinished_at s c.held.items) e

no_line_at : (c : Cutter) → c.state ≡ Unfinished → line_of c ≡ []
no_line_at c e = ap (λ s. complete_at s c.held.items) e

limit_long : (before : ℕ) (line : List ℕ) → before < 1000000 → 65536 < length line → limit_refusal before line ≡ Some LineTooLong
limit_long before line few long = grind (arith, nat_tests)

limit_many : (before : ℕ) (line : List ℕ) → before ≡ 1000000 → limit_refusal before line ≡ Some TooManyLines
limit_many before line many = grind (arith, nat_tests)

-- a line within the limits is not refused for them
pub limit_refusal-none : (before : ℕ) (line : List ℕ) → before < 1000000 → length line ≤ 65536 → limit_refusal before line ≡ None
limit_refusal-none before line few short = grind (arith, nat_tests)

-- unfinished bytes are within the limits of a line
pending_within : (c : Cutter) (lines : List (List ℕ)) → length lines ≡ lines_taken c → pending c ≢ [] → limit_refusal (length lines) (pending c) ≡ None
pending_within c lines counted some =
    let other : lines_taken c ≢ 1000000 = λ full. some (pending-last c full) in
    limit_refusal-none (length lines) (pending c) (omega (arith, c.few)) (pending-short c)

-- and so is the last complete line
pub limit_refusal-last : (c : Cutter) (stream : List ℕ) (lines : List (List ℕ)) (line : List ℕ) → CutterStands c stream (lines ++ line ∷ []) → limit_refusal (length lines) line ≡ None
limit_refusal-last c stream lines line s =
    limit_refusal-none (length lines) line
    (omega (arith, s.few, length-append lines (line ∷ [])))
    (all_last lines line s.short)
  where
    all_last : (lines : List (List ℕ)) (line : List ℕ) → All (λ x. length x ≤ 65536) (lines ++ line ∷ []) → length line ≤ 65536
    all_last [] line h = All-head (λ x. length x ≤ 65536) line [] h
    all_last (first ∷ lines) line h = all_last lines line (All-tail (λ x. length x ≤ 65536) first (lines ++ line ∷ []) h)

pub stands_completes : (old new : Cutter) (stream : List ℕ) (lines : List (List ℕ)) (piece : List ℕ) (used : ℕ) → CutterStands old stream lines → Completes old piece used new → CutterStands new (stream ++ take used piece) (lines ++ line_of new ∷ [])
stands_completes old new stream lines piece used s k = record {
  splits = rw (k.taken, k.line, fresh_at new k.state) (Splits-line stream lines (pending old) k.body s.splits k.no_feed);
  counted = simp length-append (omega (arith, s.counted, k.count));
  few = simp length-append (omega (arith, s.counted, k.count, new.few));
  short = All-push (λ line. length line ≤ 65536) lines (line_of new) s.short (line_of-short new);
  unfinished = λ some. absurd (some (fresh_at new k.state));
  accepts = ap refused_at k.state;
}

-- a whole line of the piece is the next one
pub stands_whole : (old new : Cutter) (stream : List ℕ) (lines : List (List ℕ)) (piece line : List ℕ) → CutterStands old stream lines → FindsWhole old piece line new → CutterStands new (stream ++ take (length line + 1) piece) (lines ++ line ∷ [])
stands_whole old new stream lines piece line s k = record {
  splits = rw (k.taken, k.still) (subst (λ x. Splits (stream ++ (line ++ 10 ∷ [])) (lines ++ (x ++ line) ∷ []) []) k.none (Splits-line stream lines (pending old) line s.splits k.no_feed));
  counted = simp length-append (omega (arith, s.counted, k.count));
  few = simp length-append (omega (arith, s.counted, k.count, new.few));
  short = All-push (λ line. length line ≤ 65536) lines line s.short k.short;
  unfinished = λ some. absurd (some k.still);
  accepts = ap refused_at k.state;
}

pub stands_grows : (old new : Cutter) (stream : List ℕ) (lines : List (List ℕ)) (piece : List ℕ) → CutterStands old stream lines → Grows old piece new → CutterStands new (stream ++ piece) lines
stands_grows old new stream lines piece s k = record {
  splits = rw k.grown (Splits-grow stream lines (pending old) piece s.splits k.no_feed);
  counted = s.counted ∙ sym k.count;
  few = s.few;
  short = s.short;
  unfinished = pending_within new lines (s.counted ∙ sym k.count);
  accepts = ap refused_at k.state;
}

-- bytes have a first line
lines_of-some : (bytes : List ℕ) → 0 < length bytes → (line : List ℕ) × (others : List (List ℕ)) × (lines_of bytes ≡ line ∷ others)
lines_of-some [] h = absurd (omega arith)
lines_of-some (b ∷ bytes) h =
    let P : Bool → Type 0 = λ v. (line : List ℕ) × (others : List (List ℕ)) × (cond v ([] ∷ lines_of bytes) (onto_first b (lines_of bytes)) ≡ line ∷ others) in
    let other : P false = elim (lines_of bytes) as (λ ls. (line : List ℕ) × (others : List (List ℕ)) × (onto_first b ls ≡ line ∷ others)) [ [] ↦ (b ∷ [], [], refl) | l ∷ ls ↦ (b ∷ l, ls, refl) ] in
    elim (b == 10) as P [ true ↦ ([], lines_of bytes, refl) | false ↦ other ]

long_line : (front rest : List ℕ) → NoFeed front → 0 < length front → (line : List ℕ) × (lines : List (List ℕ)) × (lines_of (front ++ rest) ≡ (front ++ line) ∷ lines)
long_line [] rest clean h = absurd (omega arith)
long_line (b ∷ front) rest clean h = first_long front rest b clean

pub refuses_many : (old : Cutter) (stream : List ℕ) (lines : List (List ℕ)) (piece : List ℕ) → CutterStands old stream lines → IsTooMany old piece → RefusesNext (stream ++ piece) lines TooManyLines
refuses_many old stream lines piece s many = λ more.
    let some : 0 < length (pending old ++ (piece ++ more)) = let h : 0 < length piece = many.1 in simp length-append (omega arith) in
    let n = lines_of-some (pending old ++ (piece ++ more)) some in (
      n.0,
      n.1,
      ap lines_of (append_assoc stream piece more) ∙ lines_of-splits stream lines (pending old) (piece ++ more) s.splits ∙ ap (λ x. lines ++ x) n.2,
      limit_many (length lines) n.0 (s.counted ∙ many.0),
    )

pub refuses_long : (old : Cutter) (stream : List ℕ) (lines : List (List ℕ)) (piece : List ℕ) → CutterStands old stream lines → Passes old piece → RefusesNext (stream ++ piece) lines LineTooLong
refuses_long old stream lines piece s passes = λ more.
    let front : List ℕ = pending old ++ take passes.some piece in
    let n = long_line front (drop passes.some piece ++ more) (All-append (λ x. x ≢ 10) (pending old) (take passes.some piece) s.splits.unfinished passes.no_feed) (omega (arith, passes.long)) in
    let regroup : pending old ++ ((take passes.some piece ++ drop passes.some piece) ++ more) ≡ front ++ (drop passes.some piece ++ more) = simp append_assoc in (
      front ++ n.0,
      n.1,
      ap lines_of (append_assoc stream piece more)
          ∙ lines_of-splits stream lines (pending old) (piece ++ more) s.splits
          ∙ ap (λ x. lines ++ lines_of (pending old ++ (x ++ more))) (sym (take-append-drop passes.some piece))
          ∙ ap (λ x. lines ++ lines_of x) regroup
          ∙ ap (λ x. lines ++ x) n.2,
      limit_long (length lines) (front ++ n.0) (omega (arith, old.few, passes.few, s.counted)) (omega (arith, passes.long, length-append front n.0)),
    )

pub refuses_next : (old : Cutter) (stream : List ℕ) (lines : List (List ℕ)) (piece : List ℕ) (r : LineRefusal) → CutterStands old stream lines → CutRefused old piece r → RefusesNext (stream ++ piece) lines r
refuses_next old stream lines piece LineTooLong s k = refuses_long old stream lines piece s k
refuses_next old stream lines piece TooManyLines s k = refuses_many old stream lines piece s k
refuses_next old stream lines piece BadLine s k = absurd k
refuses_next old stream lines piece NotStarted s k = absurd k
refuses_next old stream lines piece Started s k = absurd k
refuses_next old stream lines piece BadStep s k = absurd k
refuses_next old stream lines piece BadValue s k = absurd k
refuses_next old stream lines piece OutOfRange s k = absurd k
refuses_next old stream lines piece DuplicateKey s k = absurd k
refuses_next old stream lines piece NoSave s k = absurd k
refuses_next old stream lines piece TooManySaves s k = absurd k
refuses_next old stream lines piece Memory s k = absurd k

pub takes_cut : (old new : Cutter) (stream : List ℕ) (lines : List (List ℕ)) (piece : List ℕ) (cut : Cut) → CutterStands old stream lines → CutsPiece old piece (Ok cut) new → TakesPiece stream lines piece (Ok cut) new
takes_cut old new stream lines piece (Whole line) s k = stands_whole old new stream lines piece line.now s k
takes_cut old new stream lines piece (Line used) s k = stands_completes old new stream lines piece used s k
takes_cut old new stream lines piece Part s k = stands_grows old new stream lines piece s k

completes_size : (old new : Cutter) (piece : List ℕ) (used : ℕ) → Completes old piece used new → (0 < used) × (used ≤ length piece) × CompletesLine old used new
completes_size old new piece used k =
    let size : length (take used piece) ≡ used = simp length-take (omega (arith, k.within)) in
    let body : length (take used piece) ≡ length k.body + 1 = ap length k.taken ∙ simp length-append in (
      omega arith,
      k.within,
      record {
        size = let line : length (line_of new) ≡ length (pending old) + length k.body = ap length k.line ∙ simp length-append in omega arith;
        fresh = fresh_at new k.state;
        counted = k.count;
      },
    )

pub takes_bytes : (old new : Cutter) (piece : List ℕ) (cut : Cut) → CutsPiece old piece (Ok cut) new → TakesBytes old piece (Ok cut) new
takes_bytes old new piece (Whole line) k = (k.within, record { none = k.none; still = k.still; short = k.short; counted = k.count })
takes_bytes old new piece (Line used) k = completes_size old new piece used k
takes_bytes old new piece Part k = record {
  none = no_line_at new k.state;
  grown = ap length k.grown ∙ simp length-append;
  counted = k.count;
}

-- bytes without a line feed are one line
one_line : (bytes : List ℕ) → NoFeed bytes → bytes ≢ [] → lines_of bytes ≡ bytes ∷ []
one_line [] clean some = absurd (some refl)
one_line (b ∷ bytes) clean some = lines_of-unfinished b bytes clean

-- the lines of a stream that ends here
lines_of-end : (stream : List ℕ) (lines : List (List ℕ)) (rest : List ℕ) → Splits stream lines rest → lines_of stream ≡ lines ++ lines_of rest
lines_of-end stream lines rest s =
    ap lines_of (sym (append-nil stream)) ∙ lines_of-splits stream lines rest [] s ∙ ap (λ x. lines ++ lines_of x) (append-nil rest)

pub finishes_end : (old new : Cutter) (stream : List ℕ) (lines : List (List ℕ)) (cut : Cut) → CutterStands old stream lines → Ends old cut new → Finishes stream lines (Ok cut) new
finishes_end old new stream lines (Whole line) s k = absurd k
finishes_end old new stream lines (Line used) s k =
    let closes = k.1 in (
      lines_of-end stream lines (pending old) s.splits ∙ ap (λ x. lines ++ x) (one_line (pending old) s.splits.unfinished closes.some ∙ ap (λ x. x ∷ []) (sym closes.line)),
      record {
        splits = rw (closes.line, fresh_at new closes.state) (subst (λ x. Splits (stream ++ 10 ∷ []) (lines ++ x ∷ []) []) (append-nil (pending old)) (Splits-line stream lines (pending old) [] s.splits (All-nil (λ x. x ≢ 10))));
        counted = simp length-append (omega (arith, s.counted, closes.count));
        few = simp length-append (omega (arith, s.counted, closes.count, new.few));
        short = All-push (λ line. length line ≤ 65536) lines (line_of new) s.short (line_of-short new);
        unfinished = λ some. absurd (some (fresh_at new closes.state));
        accepts = ap refused_at closes.state;
      },
    )
finishes_end old new stream lines Part s k = (
  lines_of-end stream lines (pending old) s.splits ∙ ap (λ x. lines ++ lines_of x) k.none ∙ append-nil lines,
  record {
    splits = subst (λ x. Splits stream lines x) (k.none ∙ sym k.still) s.splits;
    counted = s.counted ∙ sym k.count;
    few = s.few;
    short = s.short;
    unfinished = λ some. absurd (some k.still);
    accepts = ap refused_at k.state;
  },
)

pub finishes_bytes : (old new : Cutter) (cut : Cut) → Ends old cut new → FinishesBytes old (Ok cut) new
finishes_bytes old new (Whole line) k = absurd k
finishes_bytes old new (Line used) k =
    let closes = k.1 in (
      k.0,
      record {
        size = ap (λ x. length x + 1) (sym closes.line);
        fresh = fresh_at new closes.state;
        counted = closes.count;
      },
    )
finishes_bytes old new Part k = (
  k.none,
  record {
    none = no_line_at new k.state;
    grown = let a = ap length k.still in let b = ap length k.none in omega arith;
    counted = k.count;
  },
)

-- a cutter that goes on has no refusal to answer
pub not_refused : (s : State) (r : LineRefusal) → refused_at s ≡ None → refused_at s ≡ Some r → ⊥
not_refused s r none some = cc
