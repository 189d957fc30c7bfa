-- What a reader does up to a point depends on the tokens up to that point.
use Rattle.std.proofs.Common.{◌≡◌, ◌≢◌, ℕ, suc, ◌+◌, ◌≤◌, nat_le, nat_lt, Bool, true, false, List, [], ◌∷◌, ◌++◌, Option, Some, None, length, if◌then◌else◌, refl, ap, arith}
use Rattle.sf_value.specs.Values.{Kind}
use Rattle.sf_lex.specs.Tokens.{Tok}
use Rattle.sf_refusal.specs.declared.rule.Rule.{Rule}
use Rattle.sf_refusal.specs.declared.rule.Rule.TheVariants.{Unexpected, WrittenTypeTooLarge, TooMany}
use Rattle.sf_grammar.specs.Reading.{Read, got, stop, ◌and_then◌, type_met}

-- lists of tokens that are the same up to a point, behind which `rest` and `other` stand
pub data Onward (rest other : List Tok) : List Tok → List Tok → Type 0 where
  edge : Onward rest other rest other
  next : (s : Tok) {u w : List Tok} → Onward rest other u w → Onward rest other (s ∷ u) (s ∷ w)

-- the same, with one token at least in front of that point
pub data Common (rest other : List Tok) : List Tok → List Tok → Type 0 where
  front : (s : Tok) {u w : List Tok} → Onward rest other u w → Common rest other (s ∷ u) (s ∷ w)

pub inner : {rest other u w : List Tok} → Common rest other u w → Onward rest other u w
inner (front s o) = next s o

-- reading went beyond a point behind which so many tokens stand, or stopped for another reason than a token
pub data Past (n : ℕ) {A : Type 0} : Read A → Type 0 where
  got_past : (a : A) (b : List Tok) → length b ≤ n → Past n (got a b)
  stop_past : (fault : Rule) (b : List Tok) → length b ≤ n → Past n (stop fault b)
  other_past : (fault : Rule) (b : List Tok) → fault ≢ Unexpected → Past n (stop fault b)

-- the same was read in front of the point, or the first reading went beyond it
pub data Alike (rest other : List Tok) {A : Type 0} : Read A → Read A → Type 0 where
  both_got : (a : A) {u w : List Tok} → Onward rest other u w → Alike rest other (got a u) (got a w)
  both_stop : (fault : Rule) {u w : List Tok} → Common rest other u w → Alike rest other (stop fault u) (stop fault w)
  beyond : {r s : Read A} → Past (length rest) r → Alike rest other r s

-- two readers that read alike; they differ in what they know of where a form began
pub record Local {A : Type 0} (f g : List Tok → Read A) : Type 0 where
  pub near : (rest other : List Tok) (u w : List Tok) → Common rest other u w → Alike rest other (f u) (g w)
  pub gone : (n : ℕ) (u : List Tok) → length u ≤ n → Past n (f u)

pub onward : {A : Type 0} {f g : List Tok → Read A} → Local f g → (rest other u w : List Tok) → Onward rest other u w → Alike rest other (f u) (g w)
onward l rest other u w edge = beyond (l.gone (length rest) rest (omega arith))
onward l rest other u w (next s o) = l.near rest other _ _ (front s o)

then_alike : {A B : Type 0} {rest other : List Tok} {r s : Read A} {k h : A → List Tok → Read B} → ((a : A) → Local (k a) (h a)) → Alike rest other r s → Alike rest other (r and_then k) (s and_then h)
then_alike {rest = rest} {other = other} l (both_got a o) = onward (l a) rest other _ _ o
then_alike l (both_stop fault c) = both_stop fault c
then_alike {rest = rest} l (beyond (got_past a b short)) = beyond ((l a).gone (length rest) b short)
then_alike l (beyond (stop_past fault b short)) = beyond (stop_past fault b short)
then_alike l (beyond (other_past fault b different)) = beyond (other_past fault b different)

then_past : {A B : Type 0} {n : ℕ} {r : Read A} {k h : A → List Tok → Read B} → ((a : A) → Local (k a) (h a)) → Past n r → Past n (r and_then k)
then_past {n = n} l (got_past a b short) = (l a).gone n b short
then_past l (stop_past fault b short) = stop_past fault b short
then_past l (other_past fault b different) = other_past fault b different

-- one reader behind the other
pub bind : {A B : Type 0} {f g : List Tok → Read A} {k h : A → List Tok → Read B} → Local f g → ((a : A) → Local (k a) (h a)) → Local (λ u. f u and_then k) (λ u. g u and_then h)
bind first l = record {
  near = λ rest other u w c. then_alike l (first.near rest other u w c);
  gone = λ n u short. then_past l (first.gone n u short);
}

-- what was read, and nothing more
pub got_local : {A : Type 0} (a : A) → Local (got a) (got a)
got_local a = record { near = λ rest other u w c. both_got a (inner c); gone = λ n u short. got_past a u short }

pub stop_local : {A : Type 0} (fault : Rule) → Local {A = A} (stop fault) (stop fault)
stop_local fault = record { near = λ rest other u w c. both_stop fault c; gone = λ n u short. stop_past fault u short }

-- a reader that knows the whole form's tokens, behind the form's first token
pub record Behind {A : Type 0} (k h : List Tok → List Tok → Read A) : Type 0 where
  pub near : (rest other : List Tok) (s : Tok) (u w : List Tok) → Onward rest other u w → Alike rest other (k (s ∷ u) u) (h (s ∷ w) w)
  pub gone : (n : ℕ) (s : Tok) (u : List Tok) → length (s ∷ u) ≤ n → Past n (k (s ∷ u) u)

pub behind : {A : Type 0} {k h : List Tok → List Tok → Read A} → ((start start' : List Tok) → Local (k start) (h start')) → Behind k h
behind l = record {
  near = λ rest other s u w o. onward (l (s ∷ u) (s ∷ w)) rest other u w o;
  gone = λ n s u short. (l (s ∷ u) (s ∷ u)).gone n u (omega arith);
}

-- the form is read from its first token on
pub anew : {A : Type 0} {f g : List Tok → Read A} → Local f g → Behind (λ start tokens. f start) (λ start tokens. g start)
anew l = record {
  near = λ rest other s u w o. l.near rest other (s ∷ u) (s ∷ w) (front s o);
  gone = λ n s u short. l.gone n (s ∷ u) short;
}

pub behind_stop : {A : Type 0} (fault : Rule) → Behind {A = A} (λ start tokens. stop fault start) (λ start tokens. stop fault start)
behind_stop fault = anew (stop_local fault)

-- what readers do at a token and behind it
pub record AtToken {A : Type 0} (f g : List Tok → Read A) (s : Tok) : Type 0 where
  pub one : List Tok → List Tok → Read A
  pub two : List Tok → List Tok → Read A
  pub local : Behind one two
  pub first : (u : List Tok) → f (s ∷ u) ≡ one (s ∷ u) u
  pub second : (u : List Tok) → g (s ∷ u) ≡ two (s ∷ u) u

token_near : {A : Type 0} (f g : List Tok → Read A) (rest other : List Tok) (s : Tok) (u w : List Tok) → AtToken f g s → Onward rest other u w → Alike rest other (f (s ∷ u)) (g (s ∷ w))
token_near f g rest other s u w at o = rw (at.first u, at.second w) (at.local.near rest other s u w o)

token_gone : {A : Type 0} (f g : List Tok → Read A) (n : ℕ) (s : Tok) (u : List Tok) → AtToken f g s → length (s ∷ u) ≤ n → Past n (f (s ∷ u))
token_gone f g n s u at short = rw (at.first u) (at.local.gone n s u short)

tokens_near : {A : Type 0} (f g : List Tok → Read A) → ((s : Tok) → AtToken f g s) → (rest other : List Tok) (u w : List Tok) → Common rest other u w → Alike rest other (f u) (g w)
tokens_near f g at rest other _ _ (front s {u} {w} o) = token_near f g rest other s u w (at s) o

tokens_gone : {A : Type 0} (f g : List Tok → Read A) (fault : Rule) → f [] ≡ stop fault [] → ((s : Tok) → AtToken f g s) → (n : ℕ) (u : List Tok) → length u ≤ n → Past n (f u)
tokens_gone f g fault none at n [] short = rw none (stop_past fault [] short)
tokens_gone f g fault none at n (s ∷ u) short = token_gone f g n s u (at s) short

-- readers that go by the first token
pub by_token : {A : Type 0} (f g : List Tok → Read A) (fault : Rule) → f [] ≡ stop fault [] → ((s : Tok) → AtToken f g s) → Local f g
by_token f g fault none at = record { near = tokens_near f g at; gone = tokens_gone f g fault none at }

-- readers of one token
pub takes : {A : Type 0} {f : List Tok → Read A} {s : Tok} (a : A) → ((u : List Tok) → f (s ∷ u) ≡ got a u) → AtToken f f s
takes a is = record { one = λ start tokens. got a tokens; two = λ start tokens. got a tokens; local = behind (λ start start'. got_local a); first = is; second = is }

pub stops : {A : Type 0} {f : List Tok → Read A} {s : Tok} (fault : Rule) → ((u : List Tok) → f (s ∷ u) ≡ stop fault (s ∷ u)) → AtToken f f s
stops fault is = record { one = λ start tokens. stop fault start; two = λ start tokens. stop fault start; local = behind_stop fault; first = is; second = is }

-- a form was read to its end, and may be one too many
counted_near : {A : Type 0} (a : A) (test : Bool) (rest other start start' u w : List Tok) → Onward rest other u w
    → Alike rest other (if test then got a u else stop TooMany start) (if test then got a w else stop TooMany start')
counted_near a true rest other start start' u w o = both_got a o
counted_near a false rest other start start' u w o = beyond (other_past TooMany start (λ same. cc))

counted_gone : {A : Type 0} (a : A) (test : Bool) (n : ℕ) (start u : List Tok) → length u ≤ n → Past n (if test then got a u else stop TooMany start)
counted_gone a true n start u short = got_past a u short
counted_gone a false n start u short = other_past TooMany start (λ same. cc)

pub counted_local : {A : Type 0} (a : A) (count : ℕ) (start start' : List Tok) → Local (λ u. if nat_le count 100000 then got a u else stop TooMany start) (λ u. if nat_le count 100000 then got a u else stop TooMany start')
counted_local a count start start' = record {
  near = λ rest other u w c. counted_near a (nat_le count 100000) rest other start start' u w (inner c);
  gone = λ n u short. counted_gone a (nat_le count 100000) n start u short;
}

-- a type may be one too many
met_near : (test : Bool) (rest other start start' : List Tok) (r s : Read Kind) → Alike rest other r s
    → Alike rest other (if test then r else stop WrittenTypeTooLarge start) (if test then s else stop WrittenTypeTooLarge start')
met_near true rest other start start' r s alike = alike
met_near false rest other start start' r s alike = beyond (other_past WrittenTypeTooLarge start (λ same. cc))

met_gone : (test : Bool) (n : ℕ) (start : List Tok) (r : Read Kind) → Past n r → Past n (if test then r else stop WrittenTypeTooLarge start)
met_gone true n start r past = past
met_gone false n start r past = other_past WrittenTypeTooLarge start (λ same. cc)

pub met_behind : {k h : List Tok → List Tok → Read Kind} (met : ℕ) (start start' : List Tok) → Behind k h → Behind (λ whole tokens. type_met met start (k whole tokens)) (λ whole tokens. type_met met start' (h whole tokens))
met_behind {k = k} {h = h} met start start' l = record {
  near = λ rest other s u w o. met_near (nat_lt met 256) rest other start start' (k (s ∷ u) u) (h (s ∷ w) w) (l.near rest other s u w o);
  gone = λ n s u short. met_gone (nat_lt met 256) n start (k (s ∷ u) u) (l.gone n s u short);
}

-- a reader that knows where it begins
pub from_start : {A : Type 0} {k h : List Tok → List Tok → Read A} → ((start start' : List Tok) → Local (k start) (h start')) → Local (λ u. k u u) (λ u. h u u)
from_start l = record {
  near = λ rest other u w c. (l u w).near rest other u w c;
  gone = λ n u short. (l u u).gone n u short;
}

-- whether what a reader looks for stands in front
pub data Peek (ahead : List Tok → Option (List Tok)) (s : Tok) : Type 0 where
  there : ((u : List Tok) → ahead (s ∷ u) ≡ Some u) → Peek ahead s
  absent : ((u : List Tok) → ahead (s ∷ u) ≡ None) → Peek ahead s

-- readers that go by what stands in front
pub record Peeks {A : Type 0} (f : Option (List Tok) → List Tok → Read A) (yes no : List Tok → Read A) : Type 0 where
  pub some : (r u : List Tok) → f (Some r) u ≡ yes r
  pub none : (u : List Tok) → f None u ≡ no u

peek_near : {A : Type 0} (ahead : List Tok → Option (List Tok)) {f g : Option (List Tok) → List Tok → Read A} {yes yes' no no' : List Tok → Read A} (rest other : List Tok) (s : Tok) (u w : List Tok) → Peek ahead s
    → Peeks f yes no → Peeks g yes' no' → Local yes yes' → Local no no' → Onward rest other u w → Alike rest other (f (ahead (s ∷ u)) (s ∷ u)) (g (ahead (s ∷ w)) (s ∷ w))
peek_near ahead rest other s u w (there is) a b l m o = rw (is u, is w, a.some u (s ∷ u), b.some w (s ∷ w)) (onward l rest other u w o)
peek_near ahead rest other s u w (absent is) a b l m o = rw (is u, is w, a.none (s ∷ u), b.none (s ∷ w)) (m.near rest other (s ∷ u) (s ∷ w) (front s o))

peeks_near : {A : Type 0} (ahead : List Tok → Option (List Tok)) {f g : Option (List Tok) → List Tok → Read A} {yes yes' no no' : List Tok → Read A} → ((s : Tok) → Peek ahead s)
    → Peeks f yes no → Peeks g yes' no' → Local yes yes' → Local no no' → (rest other u w : List Tok) → Common rest other u w → Alike rest other (f (ahead u) u) (g (ahead w) w)
peeks_near ahead peek a b l m rest other _ _ (front s {u} {w} o) = peek_near ahead rest other s u w (peek s) a b l m o

peek_gone : {A : Type 0} (ahead : List Tok → Option (List Tok)) {f : Option (List Tok) → List Tok → Read A} {yes yes' no no' : List Tok → Read A} (n : ℕ) (s : Tok) (u : List Tok) → Peek ahead s
    → Peeks f yes no → Local yes yes' → Local no no' → length (s ∷ u) ≤ n → Past n (f (ahead (s ∷ u)) (s ∷ u))
peek_gone ahead n s u (there is) a l m short = rw (is u, a.some u (s ∷ u)) (l.gone n u (omega arith))
peek_gone ahead n s u (absent is) a l m short = rw (is u, a.none (s ∷ u)) (m.gone n (s ∷ u) short)

peeks_gone : {A : Type 0} (ahead : List Tok → Option (List Tok)) {f : Option (List Tok) → List Tok → Read A} {yes yes' no no' : List Tok → Read A} → ahead [] ≡ None → ((s : Tok) → Peek ahead s)
    → Peeks f yes no → Local yes yes' → Local no no' → (n : ℕ) (u : List Tok) → length u ≤ n → Past n (f (ahead u) u)
peeks_gone ahead empty peek a l m n [] short = rw (empty, a.none []) (m.gone n [] short)
peeks_gone ahead empty peek a l m n (s ∷ u) short = peek_gone ahead n s u (peek s) a l m short

pub peek_local : {A : Type 0} (ahead : List Tok → Option (List Tok)) {f g : Option (List Tok) → List Tok → Read A} {yes yes' no no' : List Tok → Read A} → ahead [] ≡ None → ((s : Tok) → Peek ahead s)
    → Peeks f yes no → Peeks g yes' no' → Local yes yes' → Local no no' → Local (λ u. f (ahead u) u) (λ u. g (ahead u) u)
peek_local ahead empty peek a b l m = record { near = peeks_near ahead peek a b l m; gone = peeks_gone ahead empty peek a l m }

-- what was got is no longer than what was read
pub got_short : {A : Type 0} {n : ℕ} {r : Read A} (a : A) (b : List Tok) → Past n r → r ≡ got a b → length b ≤ n
got_short a b (got_past c d short) is = let same : d ≡ b = cc in omega (arith, short, ap length same)
got_short a b (stop_past fault d short) is = cc
got_short a b (other_past fault d different) is = cc

-- readers that go on alike read alike
pub then_same : {A B : Type 0} (r : Read A) (k h : A → List Tok → Read B) → ((a : A) (b : List Tok) → r ≡ got a b → k a b ≡ h a b) → r and_then k ≡ r and_then h
then_same (got a b) k h same = same a b refl
then_same (stop fault at) k h same = refl

-- the tokens behind the point are as many more as they are in the rest
pub as_long : {rest other u w : List Tok} → Onward rest other u w → length u + length other ≡ length w + length rest
as_long edge = omega arith
as_long (next s o) = omega (arith, as_long o)

-- where the first reading stops at the last token in front of the point, the second does so too
pub record StopsToo {A : Type 0} (other : List Tok) (r : Read A) : Type 0 where
  pub at : List Tok
  pub is : r ≡ stop Unexpected at
  pub counted : length at ≡ suc (length other)

common_long : {rest other u w : List Tok} → Common rest other u w → length u + length other ≡ length w + length rest
common_long c = as_long (inner c)

pub stops_too : {A : Type 0} {rest other : List Tok} {r s : Read A} (at : List Tok) → Alike rest other r s → r ≡ stop Unexpected at → length at ≡ suc (length rest) → StopsToo other s
stops_too at (both_got a o) is counted = cc
stops_too at (both_stop fault {u} {w} c) is counted =
    let rule : fault ≡ Unexpected = cc in
    let same : u ≡ at = cc in
    record { at = w; is = ap (λ f. stop f w) rule; counted = omega (arith, common_long c, counted, ap length same) }
stops_too at (beyond (got_past a b short)) is counted = cc
stops_too at (beyond (stop_past fault b short)) is counted = let same : b ≡ at = cc in absurd (omega (arith, short, counted, ap length same))
stops_too at (beyond (other_past fault b different)) is counted = let rule : fault ≡ Unexpected = cc in absurd (different rule)

-- a point behind a token
pub common_at : (before rest other : List Tok) (t : Tok) → Onward rest other (before ++ (t ∷ rest)) (before ++ (t ∷ other))
common_at [] rest other t = next t edge
common_at (s ∷ before) rest other t = next s (common_at before rest other t)
