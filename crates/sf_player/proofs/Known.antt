-- Known bytes that grow step by step.
use Rattle.std.proofs.Common.{◌≡◌, ℕ, List, [], ◌++◌, Option, Some, None, refl, sym, ◌∙◌, ap, append_assoc, ◌+◌, ◌-◌, take, drop, length, arith}
use Rattle.std.specs.Io.KnownBytes.{Appends, Keeps, Consumes, IsAtEnd}
use Rattle.sf_player.specs.Counting.{WritesFront}
use Rattle.std.proofs.lemmas.List.{append-nil, take_all, length-drop}
use Rattle.std.proofs.Math.Seq.{take-add}

pub Appends-none : (known : Option (List ℕ)) → Appends known known []
Appends-none None = tt
Appends-none (Some xs) = sym (append-nil xs)

pub Appends-more : (a b c : Option (List ℕ)) (x y : List ℕ) → Appends a b x → Appends b c y → Appends a c (x ++ y)
Appends-more None b c x y p q = tt
Appends-more (Some u) None c x y p q = absurd p
Appends-more (Some u) (Some v) None x y p q = absurd q
Appends-more (Some u) (Some v) (Some w) x y p q = q ∙ ap (λ z. z ++ y) p ∙ append_assoc u x y

pub Appends-kept : (a b c : Option (List ℕ)) (x : List ℕ) → Appends a b x → Keeps b c → Appends a c x
Appends-kept None b c x p q = tt
Appends-kept (Some u) None c x p q = absurd p
Appends-kept (Some u) (Some v) None x p q = absurd q
Appends-kept (Some u) (Some v) (Some w) x p q = q ∙ p

pub Consumes-none : (known : Option (List ℕ)) → Consumes known known []
Consumes-none None = tt
Consumes-none (Some xs) = refl

pub Consumes-more : (a b c : Option (List ℕ)) (x y : List ℕ) → Consumes a b x → Consumes b c y → Consumes a c (x ++ y)
Consumes-more None b c x y p q = tt
Consumes-more (Some u) None c x y p q = absurd p
Consumes-more (Some u) (Some v) None x y p q = absurd q
Consumes-more (Some u) (Some v) (Some w) x y p q = p ∙ ap (λ z. x ++ z) q ∙ sym (append_assoc x y w)

pub Consumes-kept : (a b c : Option (List ℕ)) (x : List ℕ) → Consumes a b x → Keeps b c → Consumes a c x
Consumes-kept None b c x p q = tt
Consumes-kept (Some u) None c x p q = absurd p
Consumes-kept (Some u) (Some v) None x p q = absurd q
Consumes-kept (Some u) (Some v) (Some w) x p q = p ∙ ap (λ z. x ++ z) (sym q)

-- a slice `&xs[i..]`
pub slice_from : (i : ℕ) (xs : List ℕ) → take (length xs - i) (drop i xs) ≡ drop i xs
slice_from i xs = take_all (length xs - i) (drop i xs) (simp length-drop (omega arith))

pub take-next : (i n : ℕ) (xs : List ℕ) → take (i + n) xs ≡ take i xs ++ take n (take (length xs - i) (drop i xs))
take-next i n xs = take-add i n xs ∙ ap (λ z. take i xs ++ take n z) (sym (slice_from i xs))

pub Keeps-same : (known : Option (List ℕ)) → Keeps known known
Keeps-same None = tt
Keeps-same (Some xs) = refl

-- nothing is left at the end
pub nothing_left : (c : Option (List ℕ)) (left : List ℕ) → c ≡ Some left → IsAtEnd c → left ≡ []
nothing_left None left e h = cc
nothing_left (Some xs) left e h = cc

-- a front of a text, where more was to follow it
pub WritesFront-more : (a b : Option (List ℕ)) (text more : List ℕ) → WritesFront a b text → WritesFront a b (text ++ more)
WritesFront-more a b text more w = (w.0, w.1 ++ more, w.2, ap (λ x. x ++ more) w.3 ∙ append_assoc w.0 w.1 more)

-- a text, and then a front of more
pub WritesFront-behind : (a b c : Option (List ℕ)) (text more : List ℕ) → Appends a b text → WritesFront b c more → WritesFront a c (text ++ more)
WritesFront-behind a b c text more p w = (text ++ w.0, w.1, Appends-more a b c text w.0 p w.2, ap (λ x. text ++ x) w.3 ∙ sym (append_assoc text w.0 w.1))
