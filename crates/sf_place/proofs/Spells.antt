-- Readers and the tokens that they read: what is begun can be ended, and what is whole is not refused for a token.
use Rattle.std.proofs.Common.{◌≡◌, ◌≢◌, ℕ, nat_le, nat_lt, Bool, true, false, List, [], ◌∷◌, ◌++◌, if◌then◌else◌, refl, sym, ◌∙◌, ap, subst, append_assoc}
use Rattle.std.specs.List.{All}
use Rattle.std.proofs.lemmas.List.Elements.{All-append, All-cons, All-nil}
use Rattle.sf_value.specs.Values.{Kind}
use Rattle.sf_lex.specs.Tokens.{Tok}
use Rattle.sf_place.specs.Places.{IsPlain}
use Rattle.sf_refusal.specs.declared.rule.Rule.{Rule}
use Rattle.sf_refusal.specs.declared.rule.Rule.TheVariants.{Unexpected, TooDeep, WrittenTypeTooLarge, TooMany}
use Rattle.sf_grammar.specs.Reading.{Read, got, stop, ◌and_then◌, too_deep, type_met}

-- some tokens are so, which are plain ones
pub record Exists (L : List Tok → Type 0) : Type 0 where
  pub tokens : List Tok
  pub are : L tokens
  pub plain : All IsPlain tokens

-- tokens in front of the rest are so
pub record Taken (L : List Tok → Type 0) (tokens rest : List Tok) : Type 0 where
  pub front : List Tok
  pub split : tokens ≡ front ++ rest
  pub whole : L front

-- tokens in front of a point are so with plain ones behind them
pub record Begun (L : List Tok → Type 0) (tokens at : List Tok) : Type 0 where
  pub front : List Tok
  pub more : List Tok
  pub split : tokens ≡ front ++ at
  pub whole : L (front ++ more)
  pub plain : All IsPlain more

pub plain_none : All IsPlain []
plain_none = All-nil IsPlain

pub plain_more : (t : Tok) (ts : List Tok) → IsPlain t → All IsPlain ts → All IsPlain (t ∷ ts)
plain_more t ts one others = All-cons IsPlain t ts one others

pub plain_one : (t : Tok) → IsPlain t → All IsPlain (t ∷ [])
plain_one t one = plain_more t [] one plain_none

-- what was got was whole, and where a token was refused it was begun
pub record TakesAt {A : Type 0} (L : List Tok → Type 0) (read : Read A) (tokens : List Tok) : Type 0 where
  pub took : (a : A) (rest : List Tok) → read ≡ got a rest → Taken L tokens rest
  pub begun : (at : List Tok) → read ≡ stop Unexpected at → Begun L tokens at

-- something was got up to this point, or reading stopped for another reason than a token
pub data Fine (more : List Tok) {A : Type 0} : Read A → Type 0 where
  fine_got : (a : A) → Fine more (got a more)
  fine_stop : (fault : Rule) (at : List Tok) → fault ≢ Unexpected → Fine more (stop fault at)

-- a reader of such tokens, in front of such others
pub record Reads {A : Type 0} (F L : List Tok → Type 0) (f : List Tok → Read A) : Type 0 where
  pub value : A
  pub some : Exists L
  pub takes : (tokens : List Tok) → TakesAt L (f tokens) tokens
  pub fine : (xs more : List Tok) → L xs → F more → Fine more (f (xs ++ more))

abbrev pub Anything : List Tok → Type 0
Anything tokens = Unit {0}

-- these tokens alone
pub record Only (ys xs : List Tok) : Type 0 where
  pub is : xs ≡ ys

-- tokens of one kind, and tokens of another behind them
pub record Both (L M : List Tok → Type 0) (xs : List Tok) : Type 0 where
  pub one : List Tok
  pub two : List Tok
  pub split : xs ≡ one ++ two
  pub first : L one
  pub second : M two

pub both_exist : {L M : List Tok → Type 0} → Exists L → Exists M → Exists (Both L M)
both_exist l m = record { tokens = l.tokens ++ m.tokens; are = record { one = l.tokens; two = m.tokens; split = refl; first = l.are; second = m.are }; plain = All-append IsPlain l.tokens m.tokens l.plain m.plain }

stop_as : {A B : Type 0} (fault : Rule) (behind at : List Tok) → ◌≡◌ {A = Read A} (stop fault behind) (stop Unexpected at) → ◌≡◌ {A = Read B} (stop fault behind) (stop Unexpected at)
stop_as fault behind at is = let rule : fault ≡ Unexpected = cc in let same : behind ≡ at = cc in cc

then_took : {A B : Type 0} {L M : List Tok → Type 0} {tokens : List Tok} (r : Read A) (k : A → List Tok → Read B) → TakesAt L r tokens → ((a : A) (rest : List Tok) → TakesAt M (k a rest) rest)
    → (b : B) (rest : List Tok) → r and_then k ≡ got b rest → Taken (Both L M) tokens rest
then_took {tokens = tokens} (got a behind) k l m b rest is =
    let x = l.took a behind refl in
    let y = (m a behind).took b rest is in
    record {
      front = x.front ++ y.front;
      split = x.split ∙ ap (λ r. x.front ++ r) y.split ∙ sym (append_assoc x.front y.front rest);
      whole = record { one = x.front; two = y.front; split = refl; first = x.whole; second = y.whole };
    }
then_took (stop fault at) k l m b rest is = cc

then_begun : {A B : Type 0} {L M : List Tok → Type 0} {tokens : List Tok} (r : Read A) (k : A → List Tok → Read B) → TakesAt L r tokens → ((a : A) (rest : List Tok) → TakesAt M (k a rest) rest) → Exists M
    → (at : List Tok) → r and_then k ≡ stop Unexpected at → Begun (Both L M) tokens at
then_begun (got a behind) k l m some at is =
    let x = l.took a behind refl in
    let y = (m a behind).begun at is in
    record {
      front = x.front ++ y.front;
      more = y.more;
      split = x.split ∙ ap (λ r. x.front ++ r) y.split ∙ sym (append_assoc x.front y.front at);
      whole = record { one = x.front; two = y.front ++ y.more; split = append_assoc x.front y.front y.more; first = x.whole; second = y.whole };
      plain = y.plain;
    }
then_begun (stop fault behind) k l m some at is =
    let x = l.begun at (stop_as fault behind at is) in
    record {
      front = x.front;
      more = x.more ++ some.tokens;
      split = x.split;
      whole = record { one = x.front ++ x.more; two = some.tokens; split = sym (append_assoc x.front x.more some.tokens); first = x.whole; second = some.are };
      plain = All-append IsPlain x.more some.tokens x.plain some.plain;
    }

pub then_takes : {A B : Type 0} {L M : List Tok → Type 0} {tokens : List Tok} {r : Read A} {k : A → List Tok → Read B} → TakesAt L r tokens → ((a : A) (rest : List Tok) → TakesAt M (k a rest) rest) → Exists M → TakesAt (Both L M) (r and_then k) tokens
then_takes {r = r} {k = k} l m some = record { took = then_took r k l m; begun = then_begun r k l m some }

pub then_fine : {A B : Type 0} {more rest : List Tok} {r : Read A} (k : A → List Tok → Read B) → Fine more r → ((a : A) → Fine rest (k a more)) → Fine rest (r and_then k)
then_fine k (fine_got a) h = h a
then_fine k (fine_stop fault at other) h = fine_stop fault at other

-- a reader of one kind, in front of what the next one reads, and the next one
pub bind_before : {A B : Type 0} {F G L M : List Tok → Type 0} {f : List Tok → Read A} {k : A → List Tok → Read B} → ((xs more : List Tok) → M xs → G more → F (xs ++ more))
    → Reads F L f → ((a : A) → Reads G M (k a)) → Reads G (Both L M) (λ u. f u and_then k)
bind_before {f = f} {k = k} follows l m = record {
  value = (m l.value).value;
  some = both_exist l.some (m l.value).some;
  takes = λ tokens. then_takes (l.takes tokens) (λ a rest. (m a).takes rest) (m l.value).some;
  fine = λ xs more both g.
      let fine : Fine more (f (both.one ++ (both.two ++ more)) and_then k) =
      then_fine k (l.fine both.one (both.two ++ more) both.first (follows both.two more both.second g)) (λ a. (m a).fine both.two more both.second g) in
      subst (λ (u : List Tok). Fine more (f u and_then k)) (sym (ap (λ u. u ++ more) both.split ∙ append_assoc both.one both.two more)) fine;
}

-- one reader behind another
pub bind : {A B : Type 0} {G L M : List Tok → Type 0} {f : List Tok → Read A} {k : A → List Tok → Read B} → Reads Anything L f → ((a : A) → Reads G M (k a)) → Reads G (Both L M) (λ u. f u and_then k)
bind l m = bind_before (λ xs more are g. tt) l m

-- nothing more was read, or reading stopped for another reason than a token
pub data End (u : List Tok) {A : Type 0} : Read A → Type 0 where
  end_got : (a : A) → End u (got a u)
  end_stop : (fault : Rule) (at : List Tok) → fault ≢ Unexpected → End u (stop fault at)

-- readers that read nothing
pub record Ends {A : Type 0} (k : List Tok → Read A) : Type 0 where
  pub value : A
  pub ends : (u : List Tok) → End u (k u)

end_took : {A B : Type 0} {L : List Tok → Type 0} {tokens : List Tok} (r : Read A) (k : A → List Tok → Read B) → TakesAt L r tokens → ((a : A) → Ends (k a)) → (b : B) (rest : List Tok) → r and_then k ≡ got b rest → Taken L tokens rest
end_took {B = B} {L = L} {tokens = tokens} (got a behind) k l e b rest is = from (k a behind) ((e a).ends behind) is
  where
    from : (r : Read B) → End behind r → r ≡ got b rest → Taken L tokens rest
    from _ (end_got c) is = subst (λ (r : List Tok). Taken L tokens r) (cc) (l.took a behind refl)
    from _ (end_stop fault at other) is = cc
end_took (stop fault at) k l e b rest is = cc

end_begun : {A B : Type 0} {L : List Tok → Type 0} {tokens : List Tok} (r : Read A) (k : A → List Tok → Read B) → TakesAt L r tokens → ((a : A) → Ends (k a)) → (at : List Tok) → r and_then k ≡ stop Unexpected at → Begun L tokens at
end_begun {B = B} {L = L} {tokens = tokens} (got a behind) k l e at is = from (k a behind) ((e a).ends behind) is
  where
    from : (r : Read B) → End behind r → r ≡ stop Unexpected at → Begun L tokens at
    from _ (end_got c) is = cc
    from _ (end_stop fault there other) is = absurd (other (cc))
end_begun (stop fault behind) k l e at is = l.begun at (stop_as fault behind at is)

pub end_takes : {A B : Type 0} {L : List Tok → Type 0} {tokens : List Tok} {r : Read A} {k : A → List Tok → Read B} → TakesAt L r tokens → ((a : A) → Ends (k a)) → TakesAt L (r and_then k) tokens
end_takes {r = r} {k = k} l e = record { took = end_took r k l e; begun = end_begun r k l e }

pub end_fine : {A : Type 0} {u : List Tok} {r : Read A} → End u r → Fine u r
end_fine (end_got a) = fine_got a
end_fine (end_stop fault at other) = fine_stop fault at other

-- a reader, and what is made of what it read
pub finish : {A B : Type 0} {F L : List Tok → Type 0} {f : List Tok → Read A} {k : A → List Tok → Read B} → Reads F L f → ((a : A) → Ends (k a)) → Reads F L (λ u. f u and_then k)
finish {k = k} l e = record {
  value = (e l.value).value;
  some = l.some;
  takes = λ tokens. end_takes (l.takes tokens) e;
  fine = λ xs more are g. then_fine k (l.fine xs more are g) (λ a. end_fine ((e a).ends more));
}

pub got_ends : {A : Type 0} (a : A) → Ends (got a)
got_ends a = record { value = a; ends = λ u. end_got a }

counted_if : {A : Type 0} (a : A) (test : Bool) (start u : List Tok) → End u (if test then got a u else stop TooMany start)
counted_if a true start u = end_got a
counted_if a false start u = end_stop TooMany start (λ same. cc)

pub counted_ends : {A : Type 0} (a : A) (count : ℕ) (start : List Tok) → Ends (λ u. if nat_le count 100000 then got a u else stop TooMany start)
counted_ends a count start = record { value = a; ends = λ u. counted_if a (nat_le count 100000) start u }

nothing_took : {A : Type 0} {L : List Tok → Type 0} (tokens : List Tok) (r : Read A) → End tokens r → L [] → (a : A) (rest : List Tok) → r ≡ got a rest → Taken L tokens rest
nothing_took tokens _ (end_got c) empty a rest is = record { front = []; split = cc; whole = empty }
nothing_took tokens _ (end_stop fault at other) empty a rest is = cc

nothing_begun : {A : Type 0} {L : List Tok → Type 0} (tokens : List Tok) (r : Read A) → End tokens r → (at : List Tok) → r ≡ stop Unexpected at → Begun L tokens at
nothing_begun tokens _ (end_got c) at is = cc
nothing_begun tokens _ (end_stop fault there other) at is = absurd (other (cc))

-- what reads nothing reads the empty tokens
pub nothing : {A : Type 0} {F : List Tok → Type 0} {k : List Tok → Read A} → Ends k → Reads F (Only []) k
nothing {k = k} e = record {
  value = e.value;
  some = record { tokens = []; are = record { is = refl }; plain = plain_none };
  takes = λ tokens. record { took = nothing_took tokens (k tokens) (e.ends tokens) (record { is = refl }); begun = nothing_begun tokens (k tokens) (e.ends tokens) };
  fine = λ xs more only g. subst (λ (u : List Tok). Fine more (k (u ++ more))) (sym only.is) (end_fine (e.ends more));
}

-- ## Kinds of tokens

-- tokens of one kind are of another
pub taken_as : {L M : List Tok → Type 0} {tokens rest : List Tok} → ((xs : List Tok) → L xs → M xs) → Taken L tokens rest → Taken M tokens rest
taken_as into x = record { front = x.front; split = x.split; whole = into x.front x.whole }

pub begun_as : {L M : List Tok → Type 0} {tokens at : List Tok} → ((xs : List Tok) → L xs → M xs) → Begun L tokens at → Begun M tokens at
begun_as into x = record { front = x.front; more = x.more; split = x.split; whole = into (x.front ++ x.more) x.whole; plain = x.plain }

pub takes_as : {A : Type 0} {L M : List Tok → Type 0} {r : Read A} {tokens : List Tok} → ((xs : List Tok) → L xs → M xs) → TakesAt L r tokens → TakesAt M r tokens
takes_as into l = record { took = λ a rest is. taken_as into (l.took a rest is); begun = λ at is. begun_as into (l.begun at is) }

pub reads_as : {A : Type 0} {F L M : List Tok → Type 0} {f : List Tok → Read A} → ((xs : List Tok) → L xs → M xs) → ((xs : List Tok) → M xs → L xs) → Reads F L f → Reads F M f
reads_as into back l = record {
  value = l.value;
  some = record { tokens = l.some.tokens; are = into l.some.tokens l.some.are; plain = l.some.plain };
  takes = λ tokens. takes_as into (l.takes tokens);
  fine = λ xs more are g. l.fine xs more (back xs are) g;
}

-- a form is begun by a token
pub behind_token : {A : Type 0} {L M : List Tok → Type 0} {r : Read A} {tokens : List Tok} (t : Tok) → ((ys : List Tok) → M ys → L (t ∷ ys)) → TakesAt M r tokens → TakesAt L r (t ∷ tokens)
behind_token t into m = record {
  took = λ a rest is. let x = m.took a rest is in record { front = t ∷ x.front; split = ap (λ u. t ∷ u) x.split; whole = into x.front x.whole };
  begun = λ at is. let x = m.begun at is in record { front = t ∷ x.front; more = x.more; split = ap (λ u. t ∷ u) x.split; whole = into (x.front ++ x.more) x.whole; plain = x.plain };
}

-- a token is refused where a form would begin
pub refused : {A : Type 0} {L : List Tok → Type 0} (tokens : List Tok) → Exists L → TakesAt {A = A} L (stop Unexpected tokens) tokens
refused tokens some = record {
  took = λ a rest is. cc;
  begun = λ at is. record { front = []; more = some.tokens; split = cc; whole = some.are; plain = some.plain };
}

pub faulty : {A : Type 0} {L : List Tok → Type 0} (fault : Rule) (at tokens : List Tok) → fault ≢ Unexpected → TakesAt {A = A} L (stop fault at) tokens
faulty fault at tokens other = record { took = λ a rest is. cc; begun = λ there is. absurd (other (cc)) }

-- a reader of one token
pub token_takes : {A : Type 0} (t : Tok) (a : A) (tokens : List Tok) → TakesAt (Only (t ∷ [])) (got a tokens) (t ∷ tokens)
token_takes t a tokens = record {
  took = λ b rest is. record { front = t ∷ []; split = cc; whole = record { is = refl } };
  begun = λ at is. cc;
}

deep_if : {A : Type 0} {L : List Tok → Type 0} (test : Bool) (tokens : List Tok) → Exists L → TakesAt {A = A} L (if test then stop TooDeep tokens else stop Unexpected tokens) tokens
deep_if true tokens some = faulty TooDeep tokens tokens (λ same. cc)
deep_if false tokens some = refused tokens some

deep_takes : {A : Type 0} {L : List Tok → Type 0} (begins : Tok → Bool) (tokens : List Tok) → Exists L → TakesAt {A = A} L (too_deep begins tokens) tokens
deep_takes begins [] some = refused [] some
deep_takes begins (t ∷ tokens) some = deep_if (begins t) (t ∷ tokens) some

-- the tokens begin with one that begins a form
pub data Begins (begins : Tok → Bool) : List Tok → Type 0 where
  begins_with : (t : Tok) (tokens : List Tok) → begins t ≡ true → Begins begins (t ∷ tokens)

deep_fine : {A : Type 0} (begins : Tok → Bool) (more xs : List Tok) → Begins begins xs → Fine more {A = A} (too_deep begins (xs ++ more))
deep_fine begins more _ (begins_with t tokens is) = rw is (fine_stop TooDeep (t ∷ (tokens ++ more)) (λ same. cc))

-- a form that is too deep
pub deep_reads : {A : Type 0} {F L : List Tok → Type 0} (begins : Tok → Bool) → A → Exists L → ((xs : List Tok) → L xs → Begins begins xs) → Reads {A = A} F L (too_deep begins)
deep_reads begins value some first = record {
  value = value;
  some = some;
  takes = λ tokens. deep_takes begins tokens some;
  fine = λ xs more are g. deep_fine begins more xs (first xs are);
}

-- a type may be one too many
met_if : (test : Bool) (start tokens : List Tok) {L : List Tok → Type 0} (r : Read Kind) → TakesAt L r tokens → TakesAt L (if test then r else stop WrittenTypeTooLarge start) tokens
met_if true start tokens r l = l
met_if false start tokens r l = faulty WrittenTypeTooLarge start tokens (λ same. cc)

pub met_takes : (met : ℕ) (start tokens : List Tok) {L : List Tok → Type 0} {r : Read Kind} → TakesAt L r tokens → TakesAt L (type_met met start r) tokens
met_takes met start tokens {r = r} l = met_if (nat_lt met 256) start tokens r l

met_fine_if : (test : Bool) (start more : List Tok) (r : Read Kind) → Fine more r → Fine more (if test then r else stop WrittenTypeTooLarge start)
met_fine_if true start more r fine = fine
met_fine_if false start more r fine = fine_stop WrittenTypeTooLarge start (λ same. cc)

pub met_fine : (met : ℕ) (start : List Tok) {more : List Tok} {r : Read Kind} → Fine more r → Fine more (type_met met start r)
met_fine met start {more} {r} fine = met_fine_if (nat_lt met 256) start more r fine
