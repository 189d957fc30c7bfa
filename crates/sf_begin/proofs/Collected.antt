-- What a collection makes, and what goes on after it.
use Rattle.std.proofs.Common.{◌≡◌, ℕ, Bool, true, false, cond, List, [], ◌∷◌, ◌++◌, map, length, Option, Result, Ok, Err, refl, sym, ap, ◌∙◌, subst, arith, append_assoc, ◌⊎◌, inl, inr}
use Rattle.sf_value.specs.Values.{KeyData, Data}
use Rattle.sf_value.specs.Keys.{key_of, AreDifferentKeys}
use Rattle.sf_value.specs.declared.fault.Fault.{Fault}
use Rattle.sf_value.specs.declared.value.Key.{Key}
use Rattle.sf_operator.specs.Answers.{Evaluates}
use Rattle.sf_operator.specs.FunctionForms.{value_of_key}
use Rattle.sf_operator.specs.declared.fault.EvalFault.{EvalFault}
use Rattle.sf_operator.specs.declared.fault.EvalFault.TheVariants.{Value as EValue, Memory as EMemory}
use Rattle.sf_expr.specs.Expressions.{Expression, Function}
use Rattle.sf_expr.specs.Evaluation.{Evaluated, Scope, answer, failed, ◌>>=◌, eval}
use Rattle.sf_code.specs.Names.{scope_with}
use Rattle.sf_expr.specs.declared.exprs.Exprs.{Exprs}
use Rattle.sf_code.specs.Worth.{frame_around, IsCodeOfFunction, AnswersAsFunction}
use Rattle.sf_code.specs.declared.open.OpenCode.{OpenCode}
use Rattle.sf_term.specs.Trees.{Term}
use Rattle.sf_mean.specs.Lives.{Process, closure, Environment, Members, no_members, member, scope_around}
use Rattle.sf_mean.specs.Formulas.{is_high}
use Rattle.sf_mean.specs.Collections.{as_key, add, drop, keep}
use Rattle.sf_state.specs.declared.state.State.{State}
use Rattle.sf_state.specs.declared.env.Env.{Env}
use Rattle.sf_state.specs.Names.{values_around}
use Rattle.sf_state.specs.Standing.{IsNames, gathers, EachStands, none_stands, one_stands, StandsAmong, AllFollow, keys_in}
use Rattle.sf_state.specs.declared.state.Gathered.{Gathered}
use Rattle.sf_state.specs.Machine.{Machine}
use Rattle.sf_state.proofs.Copies.{each_follows}
use Rattle.sf_state.proofs.Scopes.{scope_is}
use Rattle.sf_begin.specs.Contexts.{sample_fault}
use Rattle.sf_begin.specs.Beginning.{Makes, makes, makes_fault, makes_nothing}
use Rattle.sf_begin.specs.Collecting.{HasMembers, MakesMembers}

-- ## What goes on after an evaluation

module _ {A B C : Type 0} (stands : A → B → Type 0) (w : Evaluated C) (f : C → Evaluated B) where
  -- with what it answers
  pub goes_on : (c : C) (r : Result A Fault) → w ≡ answer c → Makes stands (f c) r → Makes stands (w >>= f) r
  goes_on c r h m = subst (λ w. Makes stands (w >>= f) r) (sym h) m

  module _ {D : Type 0} (before : D → C → Type 0) where
    pub after_made : (d : D) (r : Result A Fault) → Makes before w (Ok d) → ((c : C) → before d c → Makes stands (f c) r) → Makes stands (w >>= f) r
    after_made d r (makes {b = c} h s) g = goes_on c r h (g c s)

    -- its fault is that of all
    pub after_fault : (x : Fault) → Makes before w (Err x) → Makes stands (w >>= f) (Err x)
    after_fault x (makes_fault h) = makes_fault (ap (λ w. w >>= f) h)
    after_fault x makes_nothing = makes_nothing

-- what is not told is a fault
pub not_told : {A : Type 0} {w : Evaluated Data} (stands : A → Data → Type 0) (x : EvalFault) → Evaluates (Err x) w → Makes stands w (Err (sample_fault x))
not_told stands (EValue y) h = makes_fault h
not_told stands EMemory h = makes_nothing

-- code over the frame of the names in a scope
pub coded_over : {x : Exprs} {f : Function} {c : OpenCode} → IsCodeOfFunction x f c → (s : Scope) (around : List Data) → around ≡ frame_around x c.around s → AnswersAsFunction s f around c.code
coded_over {f} {c} C s around e = subst (λ (a : List Data). AnswersAsFunction s f a c.code) (sym e) (record { worth = λ d. C.worth s d })

module _ (μ : Machine) (names : Env) (e : Environment) (N : IsNames μ names e) where
  -- ## What is evaluated among names

  -- the scope, as the names have it
  abbrev pub scope_in : Scope
  scope_in = scope_with (values_around μ.plan names) μ.answers

  module _ (run : Scope → Evaluated Data) where
    pub worth_in : (v : Data) → run scope_in ≡ answer v → run (scope_around μ.answers e) ≡ answer v
    worth_in v h = ap run (sym (scope_is μ names e N)) ∙ h

    pub told_in : {A : Type 0} (stands : A → Data → Type 0) (v : Data) (a : A) → run scope_in ≡ answer v → stands a v → Makes stands (run (scope_around μ.answers e)) (Ok a)
    told_in stands v a h s = makes (worth_in v h) s

    pub fails_in : {A B : Type 0} (stands : A → B → Type 0) (f : Data → Evaluated B) (x : EvalFault) → Evaluates (Err x) (run scope_in) → Makes stands (run (scope_around μ.answers e) >>= f) (Err (sample_fault x))
    fails_in stands f (EValue y) h = makes_fault (ap (λ w. w >>= f) (ap run (sym (scope_is μ names e N)) ∙ h))
    fails_in stands f EMemory h = makes_nothing

    pub not_told_in : {A : Type 0} (stands : A → Data → Type 0) (x : EvalFault) → Evaluates (Err x) (run scope_in) → Makes stands (run (scope_around μ.answers e)) (Err (sample_fault x))
    not_told_in stands (EValue y) h = makes_fault (ap run (sym (scope_is μ names e N)) ∙ h)
    not_told_in stands EMemory h = makes_nothing

  module _ (j : Expression) (v : Data) (k : KeyData) (g : Gathered) (ms : Members) (h : eval j scope_in ≡ answer v) (same : k ≡ as_key v) where
    -- one more member under the key that a value is
    pub is_added : (t : Term) → HasMembers μ g (add k (closure t e) ms) → MakesMembers μ (eval j (scope_around μ.answers e) >>= λ v. answer (add (as_key v) (closure t e) ms)) (Ok g)
    is_added t G = goes_on (HasMembers μ) (eval j (scope_around μ.answers e)) (λ v. answer (add (as_key v) (closure t e) ms)) v (Ok g) (worth_in (eval j) v h) (makes refl (subst (λ k. HasMembers μ g (add k (closure t e) ms)) same G))

    -- one less
    pub is_dropped : HasMembers μ g (drop k ms) → MakesMembers μ (eval j (scope_around μ.answers e) >>= λ v. answer (drop (as_key v) ms)) (Ok g)
    is_dropped G = goes_on (HasMembers μ) (eval j (scope_around μ.answers e)) (λ v. answer (drop (as_key v) ms)) v (Ok g) (worth_in (eval j) v h) (makes refl (subst (λ k. HasMembers μ g (drop k ms)) same G))

-- ## The members whose keys a function keeps

pub same_answer : {A : Type 0} (w : Evaluated A) → w ≡ (w >>= λ a. answer a)
same_answer (answer a) = refl
same_answer (failed x) = refl

answers_twice : {A B C : Type 0} (w : Evaluated A) (f : A → B) (g : B → C) → ((w >>= λ a. answer (f a)) >>= λ b. answer (g b)) ≡ (w >>= λ a. answer (g (f a)))
answers_twice (answer a) f g = refl
answers_twice (failed x) f g = refl

pub answers_alike : {A B : Type 0} (w : Evaluated A) (f g : A → B) → ((a : A) → f a ≡ g a) → (w >>= λ a. answer (f a)) ≡ (w >>= λ a. answer (g a))
answers_alike (answer a) f g h = ap answer (h a)
answers_alike (failed x) f g h = refl

-- members and others after them
abbrev pub followed : Members → Members → Members
followed no_members ns = ns
followed (member k P ms) ns = member k P (followed ms ns)

-- members and one after them
abbrev pub ended_by : Members → KeyData → Process → Members
ended_by no_members k P = member k P no_members
ended_by (member l Q ms) k P = member l Q (ended_by ms k P)

followed_by_none : (ms : Members) → followed ms no_members ≡ ms
followed_by_none no_members = refl
followed_by_none (member k P ms) = ap (member k P) (followed_by_none ms)

pub followed_by_one : (ms : Members) (k : KeyData) (P : Process) (ns : Members) → followed ms (member k P ns) ≡ followed (ended_by ms k P) ns
followed_by_one no_members k P ns = refl
followed_by_one (member l Q ms) k P ns = ap (member l Q) (followed_by_one ms k P ns)

pub keys_ended : (ms : Members) (k : KeyData) (P : Process) → keys_in (ended_by ms k P) ≡ keys_in ms ++ k ∷ []
keys_ended no_members k P = refl
keys_ended (member l Q ms) k P = ap (λ ks. l ∷ ks) (keys_ended ms k P)

first_same : {A : Type 0} {a b : A} {xs ys : List A} → a ∷ xs ≡ b ∷ ys → a ≡ b
first_same e = cc

rest_same : {A : Type 0} {a b : A} {xs ys : List A} → a ∷ xs ≡ b ∷ ys → xs ≡ ys
rest_same e = cc

-- keys that are different, of which one goes over to those that are kept
pub different_kept : (xs zs : List KeyData) (k l : KeyData) (ks ys : List KeyData) → ks ≡ k ∷ ys → l ≡ k → zs ≡ xs ++ l ∷ [] → AreDifferentKeys (xs ++ ks) → AreDifferentKeys (zs ++ ys)
different_kept xs zs k l ks ys e same put h =
    subst AreDifferentKeys (ap (λ ls. xs ++ ls) e ∙ sym (append_assoc xs (k ∷ []) ys) ∙ ap (λ l. (xs ++ l ∷ []) ++ ys) (sym same) ∙ ap (λ zs. zs ++ ys) (sym put)) h

module _ (μ : Machine) (w : Option ℕ) where
  stand_ended : {bs : List State} {ms : Members} {a : State} {P : Process} (k : KeyData) → EachStands μ w bs ms [] → StandsAmong μ w a P [] → EachStands μ w (bs ++ a ∷ []) (ended_by ms k P) []
  stand_ended k none_stands A = one_stands A none_stands
  stand_ended k (one_stands B S) A = one_stands B (stand_ended k S A)

  module _ (ask : Data → Evaluated Data) (ms : Members) where
    -- Some keys have been asked for, and these are kept; the others come next.
    pub record Sifted (ks : List Key) (bs : List State) (under : List KeyData) (kept : List State) : Type 0 where
      pub next : Members
      pub done : Members
      pub next_keys : map key_of ks ≡ keys_in next
      pub next_stand : EachStands μ w bs next []
      pub done_keys : under ≡ keys_in done
      pub done_stand : EachStands μ w kept done []
      pub goes : keep ask ms ≡ (keep ask next >>= λ ns. answer (followed done ns))

    pub none_sifted : (ks : List Key) (bs : List State) (under : List KeyData) (kept : List State) → map key_of ks ≡ keys_in ms → EachStands μ w bs ms [] → under ≡ [] → kept ≡ [] → Sifted ks bs under kept
    none_sifted ks bs under kept K S no_key no_state = record {
      next = ms;
      done = no_members;
      next_keys = K;
      next_stand = S;
      done_keys = no_key;
      done_stand = subst (λ bs. EachStands μ w bs no_members []) (sym no_state) none_stands;
      goes = same_answer (keep ask ms);
    }

    -- what is told of a key
    abbrev Told : KeyData → Result Bool Fault → Type 0
    Told k r = Makes (λ b v. b ≡ is_high v) (ask (value_of_key k)) r

    -- the first that comes next, with what it tells
    pub asked_one : (k : KeyData) (P : Process) (rest done : Members) (v : Data) → ask (value_of_key k) ≡ answer v
        → (keep ask (member k P rest) >>= λ ns. answer (followed done ns)) ≡ (keep ask rest >>= λ ns. answer (followed done (cond (is_high v) (member k P ns) ns)))
    asked_one k P rest done v h =
        ap (λ w. (w >>= λ b. keep ask rest >>= λ ns. answer (cond (is_high b) (member k P ns) ns)) >>= λ ns. answer (followed done ns)) h
        ∙ answers_twice (keep ask rest) (λ ns. cond (is_high v) (member k P ns) ns) (followed done)

    -- it is kept
    one_kept : {k : KeyData} {P : Process} {rest : Members} (key own : Key) (ks : List Key) (under more : List KeyData) (a : State) (bs kept longer : List State) (done : Members)
        → key_of key ∷ map key_of ks ≡ k ∷ keys_in rest → StandsAmong μ w a P [] → EachStands μ w bs rest [] → under ≡ keys_in done → EachStands μ w kept done []
        → keep ask ms ≡ (keep ask (member k P rest) >>= λ ns. answer (followed done ns))
        → Told (key_of key) (Ok true) → key_of own ≡ key_of key → more ≡ under ++ key_of own ∷ [] → longer ≡ kept ++ a ∷ [] → Sifted ks bs more longer
    one_kept {k} {P} {rest} key own ks under more a bs kept longer done K A S D E goes (makes {b = v} h told) same put also = record {
      next = rest;
      done = ended_by done k P;
      next_keys = rest_same K;
      next_stand = S;
      done_keys = put ∙ ap (λ ls. ls ++ key_of own ∷ []) D ∙ ap (λ l. keys_in done ++ l ∷ []) (same ∙ first_same K) ∙ sym (keys_ended done k P);
      done_stand = subst (λ bs. EachStands μ w bs (ended_by done k P) []) (sym also) (stand_ended k E A);
      goes = goes ∙ asked_one k P rest done v (ap (λ l. ask (value_of_key l)) (sym (first_same K)) ∙ h)
          ∙ answers_alike (keep ask rest) (λ ns. followed done (cond (is_high v) (member k P ns) ns)) (followed (ended_by done k P)) (λ ns. ap (λ b. followed done (cond b (member k P ns) ns)) (sym told) ∙ followed_by_one done k P ns);
    }

    -- it is left out
    one_left : {k : KeyData} (P : Process) (rest : Members) (key : Key) (ks : List Key) (under : List KeyData) (bs kept : List State) (done : Members)
        → key_of key ∷ map key_of ks ≡ k ∷ keys_in rest → EachStands μ w bs rest [] → under ≡ keys_in done → EachStands μ w kept done []
        → keep ask ms ≡ (keep ask (member k P rest) >>= λ ns. answer (followed done ns))
        → Told (key_of key) (Ok false) → Sifted ks bs under kept
    one_left {k} P rest key ks under bs kept done K S D E goes (makes {b = v} h told) = record {
      next = rest;
      done = done;
      next_keys = rest_same K;
      next_stand = S;
      done_keys = D;
      done_stand = E;
      goes = goes ∙ asked_one k P rest done v (ap (λ l. ask (value_of_key l)) (sym (first_same K)) ∙ h)
          ∙ answers_alike (keep ask rest) (λ ns. followed done (cond (is_high v) (member k P ns) ns)) (followed done) (λ ns. ap (λ b. followed done (cond b (member k P ns) ns)) (sym told));
    }

    -- it has a fault
    one_fails : {k : KeyData} (P : Process) (rest done : Members) (key : Key) (ks : List Key) (x : Fault) → key_of key ∷ map key_of ks ≡ k ∷ keys_in rest
        → keep ask ms ≡ (keep ask (member k P rest) >>= λ ns. answer (followed done ns)) → Told (key_of key) (Err x) → MakesMembers μ (keep ask ms) (Err x)
    one_fails {k} P rest done key ks x K goes (makes_fault h) =
        makes_fault (goes ∙ ap (λ w. (w >>= λ b. keep ask rest >>= λ ns. answer (cond (is_high b) (member k P ns) ns)) >>= λ ns. answer (followed done ns)) (ap (λ l. ask (value_of_key l)) (sym (first_same K)) ∙ h))
    one_fails P rest done key ks x K goes makes_nothing = makes_nothing

    module _ (ks ks' : List Key) (bs bs' : List State) (under : List KeyData) (kept : List State) (key : Key) (a : State) (keys_are : ks ≡ key ∷ ks') (states_are : bs ≡ a ∷ bs') (F : Sifted ks bs under kept) where
      head_keys : map key_of (key ∷ ks') ≡ keys_in F.next
      head_keys = ap (map key_of) (sym keys_are) ∙ F.next_keys

      head_stands : EachStands μ w (a ∷ bs') F.next []
      head_stands = subst (λ bs. EachStands μ w bs F.next []) states_are F.next_stand

      pub sifted_kept : (own : Key) (more : List KeyData) (longer : List State) → Told (key_of key) (Ok true) → key_of own ≡ key_of key → more ≡ under ++ key_of own ∷ [] → longer ≡ kept ++ a ∷ [] → Sifted ks' bs' more longer
      sifted_kept own more longer told same put also = by head_keys head_stands F.goes
        where
          by : {ns : Members} → map key_of (key ∷ ks') ≡ keys_in ns → EachStands μ w (a ∷ bs') ns [] → keep ask ms ≡ (keep ask ns >>= λ ns. answer (followed F.done ns)) → Sifted ks' bs' more longer
          by K (one_stands A S) goes = one_kept key own ks' under more a bs' kept longer F.done K A S F.done_keys F.done_stand goes told same put also

      pub sifted_out : Told (key_of key) (Ok false) → Sifted ks' bs' under kept
      sifted_out told = by head_keys head_stands F.goes
        where
          by : {ns : Members} → map key_of (key ∷ ks') ≡ keys_in ns → EachStands μ w (a ∷ bs') ns [] → keep ask ms ≡ (keep ask ns >>= λ ns. answer (followed F.done ns)) → Sifted ks' bs' under kept
          by K (one_stands {P = P} {ms = rest} A S) goes = one_left P rest key ks' under bs' kept F.done K S F.done_keys F.done_stand goes told

      pub not_sifted : (x : Fault) → Told (key_of key) (Err x) → MakesMembers μ (keep ask ms) (Err x)
      not_sifted x told = by head_keys head_stands F.goes
        where
          by : {ns : Members} → map key_of (key ∷ ks') ≡ keys_in ns → EachStands μ w (a ∷ bs') ns [] → keep ask ms ≡ (keep ask ns >>= λ ns. answer (followed F.done ns)) → MakesMembers μ (keep ask ms) (Err x)
          by K (one_stands {P = P} {ms = rest} A S) goes = one_fails P rest F.done key ks' x K goes told

    -- no key comes next
    none_next : (ks : List Key) (bs : List State) (ns : Members) → map key_of ks ≡ keys_in ns → EachStands μ w bs ns [] → (length ks ≡ 0) ⊎ (length bs ≡ 0) → ns ≡ no_members
    none_next ks bs no_members K S none = refl
    none_next [] bs (member k P ns) K S none = absurd cc
    none_next (k ∷ ks) [] (member l P ns) K S none = elim S [ ]
    none_next (k ∷ ks) (b ∷ bs) (member l P ns) K S (inl h) = absurd (omega arith)
    none_next (k ∷ ks) (b ∷ bs) (member l P ns) K S (inr h) = absurd (omega arith)

    pub all_sifted : (ks : List Key) (bs : List State) (under : List KeyData) (kept : List State) (g : Gathered) → Sifted ks bs under kept → (length ks ≡ 0) ⊎ (length bs ≡ 0)
        → g.keys.value ≡ under → g.states.value.items ≡ kept → g.wait ≡ w → MakesMembers μ (keep ask ms) (Ok g)
    all_sifted ks bs under kept g F none keys states wait =
        let last = none_next ks bs F.next F.next_keys F.next_stand none in
        let all : EachStands μ w g.states.value.items F.done [] = subst (λ (bs : List State). EachStands μ w bs F.done []) (sym states) F.done_stand in
        makes (F.goes ∙ ap (λ ns. keep ask ns >>= λ ns. answer (followed F.done ns)) last ∙ ap answer (followed_by_none F.done))
        (gathers (keys ∙ F.done_keys) (subst (λ v. EachStands μ v g.states.value.items F.done []) (sym wait) all))

-- no key of members has been asked for
pub start_sifted : (μ : Machine) (g : Gathered) (ask : Data → Evaluated Data) (ms : Members) (ks : List Key) (bs : List State) (under : List KeyData) (kept : List State) → map key_of ks ≡ g.keys.value
    → (own : List State) → bs ≡ own → AllFollow μ g.states.value.items own → under ≡ [] → kept ≡ [] → HasMembers μ g ms → Sifted μ g.wait ask ms ks bs under kept
start_sifted μ g ask ms ks bs under kept keys own states fs no_key no_state (gathers K S) =
    none_sifted μ g.wait ask ms ks bs under kept (keys ∙ K) (subst (λ (bs : List State). EachStands μ g.wait bs ms []) (sym states) (each_follows μ fs S)) no_key no_state

-- ## All of a collection

-- one of two, by a condition
module _ (μ : Machine) (w : Evaluated Data) (first second : Evaluated Members) (b : Bool) (r : Result Gathered Fault) where
  chosen_as : (c : Bool) → Makes (λ b v. b ≡ is_high v) w (Ok b) → b ≡ c → MakesMembers μ (cond c first second) r → MakesMembers μ (w >>= λ v. cond (is_high v) first second) r
  chosen_as c (makes {b = v} h told) is m = goes_on (HasMembers μ) w (λ v. cond (is_high v) first second) v r h (subst (λ t. Makes (HasMembers μ) (cond t first second) r) (sym is ∙ told) m)

  pub first_chosen : Makes (λ b v. b ≡ is_high v) w (Ok b) → b ≡ true → MakesMembers μ first r → MakesMembers μ (w >>= λ v. cond (is_high v) first second) r
  first_chosen = chosen_as true

  pub second_chosen : Makes (λ b v. b ≡ is_high v) w (Ok b) → b ≡ false → MakesMembers μ second r → MakesMembers μ (w >>= λ v. cond (is_high v) first second) r
  second_chosen = chosen_as false
