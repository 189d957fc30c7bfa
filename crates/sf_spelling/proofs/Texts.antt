-- The spelling of a text is what leads from its opening quote to its closing one.
use Rattle.std.proofs.Common.{◌≡◌, ◌⊎◌, inl, inr, ⊎_elim, ℕ, ◌+◌, ◌/◌, ◌≤◌, ◌<◌, Bool, true, false, List, [], ◌∷◌, ◌++◌, refl, sym, ap, subst, ◌∙◌, arith}
use Rattle.std.specs.Prelude.{◌==◌, ◌&&◌, nat_lt}
use Rattle.std.specs.List.{flat_map}
use Rattle.std.specs.Str.{IsUtf8}
use Rattle.std.specs.Char.{IsScalar}
use Rattle.std.proofs.lemmas.Bool.Decides.{nat_tests}
use Rattle.std.proofs.lemmas.Bool.{cases_lt}
use lib.Utf8.{scalar, scalars, next, encode, encodes, scalar_cases}
use lib.Dec.{ltb}
use Rattle.sf_spelling.proofs.Encoding.{one, two, three, four}
use Rattle.sf_spelling.specs.Spelling.{escaped}
use Rattle.sf_spelling.specs.Scan.{Point, between, within, puts, more_of, inside, lead, begun, moved}
use Rattle.sf_spelling.proofs.Machine.{Leads, leads_by, out, out_by}

lt_true : (a b : ℕ) → a < b → nat_lt a b ≡ true
lt_true a b h = grind (arith, nat_tests)

lt_false : (a b : ℕ) → b ≤ a → nat_lt a b ≡ false
lt_false a b h = grind (arith, nat_tests)

above : (a b : ℕ) → b < a → (a == b) ≡ false
above a b h = grind (arith, nat_tests)

under : (a b : ℕ) → a < b → (a == b) ≡ false
under a b h = grind (arith, nat_tests)

pub is_lt : (a b : ℕ) → nat_lt a b ≡ true → a < b
is_lt a b h = grind (arith, nat_tests)

pub is_ge : (a b : ℕ) → nat_lt a b ≡ false → b ≤ a
is_ge a b h = grind (arith, nat_tests)

pub is_eq : (a b : ℕ) → (a == b) ≡ true → a ≡ b
is_eq a b h = grind (arith, nat_tests)

pub escaped_high : (b : ℕ) → 128 ≤ b → escaped b ≡ b ∷ []
escaped_high b h = rw (above b 34 (omega arith), above b 92 (omega arith), above b 10 (omega arith)) refl

begun_high : (b : ℕ) → 128 ≤ b → begun b ≡ lead b
begun_high b h = rw (above b 34 (omega arith), above b 92 (omega arith), above b 10 (omega arith), lt_false b 128 h) refl

inside_is : (low high n b : ℕ) → low ≤ b → b ≤ high → inside low high n b ≡ puts b (more_of n)
inside_is low high n b l h = rw (lt_false b low l, lt_false high b h) refl

-- the bytes of a text, escaped, lead on from the point, and are the text's
pub record Carries (p : Point) (bs x : List ℕ) : Type 0 where
  pub leads : Leads p (flat_map escaped bs ++ x)
  pub same : out p (flat_map escaped bs ++ x) ≡ bs ++ out between x

carries_step : (p q : Point) (b : ℕ) (bs x : List ℕ) → 128 ≤ b → moved p b ≡ puts b q → Carries q bs x → Carries p (b ∷ bs) x
carries_step p q b bs x h e k =
    let is : flat_map escaped (b ∷ bs) ++ x ≡ b ∷ (flat_map escaped bs ++ x) = ap (λ u. (u ++ flat_map escaped bs) ++ x) (escaped_high b h) in
    record {
      leads = subst (Leads p) (sym is) (subst (λ m. leads_by m (flat_map escaped bs ++ x)) (sym e) k.leads);
      same = ap (out p) is ∙ ap (λ m. out_by m (flat_map escaped bs ++ x)) e ∙ ap (λ u. b ∷ u) k.same;
    }

two_lead : (b : ℕ) → 194 ≤ b → b < 224 → moved between b ≡ puts b (within 128 191 0)
two_lead b l h = begun_high b (omega arith) ∙ rw (lt_false b 194 l, lt_true b 224 h) refl

three_lead : (b : ℕ) → 224 < b → b < 240 → (b == 237) ≡ false → moved between b ≡ puts b (within 128 191 1)
three_lead b l h e = begun_high b (omega arith) ∙ rw (lt_false b 194 (omega arith), lt_false b 224 (omega arith), above b 224 l, e, lt_true b 240 h) refl

four_lead : (b : ℕ) → 240 < b → b < 244 → moved between b ≡ puts b (within 128 191 2)
four_lead b l h = begun_high b (omega arith) ∙ rw (lt_false b 194 (omega arith), lt_false b 224 (omega arith), above b 224 (omega arith), above b 237 (omega arith), lt_false b 240 (omega arith), above b 240 l, lt_true b 244 h) refl

carries_two : (c : ℕ) (bs x : List ℕ) → 128 ≤ c → c < 2048 → Carries between bs x → Carries between ((192 + c / 64) ∷ next c ∷ bs) x
carries_two c bs x l h k =
    carries_step between (within 128 191 0) (192 + c / 64) (next c ∷ bs) x (omega arith) (two_lead (192 + c / 64) (omega arith) (omega arith))
    (carries_step (within 128 191 0) between (next c) bs x (omega arith) (inside_is 128 191 0 (next c) (omega arith) (omega arith)) k)

-- the last bytes of a character
carries_last : (c : ℕ) (bs x : List ℕ) → Carries between bs x → Carries (within 128 191 0) (next c ∷ bs) x
carries_last c bs x k = carries_step (within 128 191 0) between (next c) bs x (omega arith) (inside_is 128 191 0 (next c) (omega arith) (omega arith)) k

carries_last_two : (d c : ℕ) (bs x : List ℕ) → Carries between bs x → Carries (within 128 191 1) (next d ∷ next c ∷ bs) x
carries_last_two d c bs x k = carries_step (within 128 191 1) (within 128 191 0) (next d) (next c ∷ bs) x (omega arith) (inside_is 128 191 1 (next d) (omega arith) (omega arith)) (carries_last c bs x k)

carries_three_by : (c : ℕ) (bs x : List ℕ) (low high : ℕ) → moved between (224 + c / 4096) ≡ puts (224 + c / 4096) (within low high 1) → low ≤ next (c / 64) → next (c / 64) ≤ high
    → Carries between bs x → Carries between ((224 + c / 4096) ∷ next (c / 64) ∷ next c ∷ bs) x
carries_three_by c bs x low high e l h k =
    carries_step between (within low high 1) (224 + c / 4096) (next (c / 64) ∷ next c ∷ bs) x (omega arith) e
    (carries_step (within low high 1) (within 128 191 0) (next (c / 64)) (next c ∷ bs) x (omega arith) (inside_is low high 1 (next (c / 64)) l h) (carries_last c bs x k))

carries_three : (c : ℕ) (bs x : List ℕ) → 2048 ≤ c → c < 65536 → (c < 55296) ⊎ (57344 ≤ c) → Carries between bs x → Carries between ((224 + c / 4096) ∷ next (c / 64) ∷ next c ∷ bs) x
carries_three c bs x l h s k = ⊎_elim
    (λ (low : c < 4096). let b : 224 + c / 4096 ≡ 224 = omega arith in
    carries_three_by c bs x 160 191 (subst (λ b. moved between b ≡ puts b (within 160 191 1)) (sym b) refl) (omega arith) (omega arith) k)
    (λ (high : 4096 ≤ c). ⊎_elim
    (λ (before : c < 55296). ⊎_elim
    (λ (less : c < 53248). carries_three_by c bs x 128 191 (three_lead (224 + c / 4096) (omega arith) (omega arith) (under (224 + c / 4096) 237 (omega arith))) (omega arith) (omega arith) k)
    (λ (more : 53248 ≤ c). let b : 224 + c / 4096 ≡ 237 = omega arith in
    carries_three_by c bs x 128 159 (subst (λ b. moved between b ≡ puts b (within 128 159 1)) (sym b) refl) (omega arith) (omega arith) k)
    (cases_lt c 53248))
    (λ (after : 57344 ≤ c). carries_three_by c bs x 128 191 (three_lead (224 + c / 4096) (omega arith) (omega arith) (above (224 + c / 4096) 237 (omega arith))) (omega arith) (omega arith) k)
    s)
    (cases_lt c 4096)

carries_four_by : (c : ℕ) (bs x : List ℕ) (low high : ℕ) → moved between (240 + c / 262144) ≡ puts (240 + c / 262144) (within low high 2) → low ≤ next (c / 4096) → next (c / 4096) ≤ high
    → Carries between bs x → Carries between ((240 + c / 262144) ∷ next (c / 4096) ∷ next (c / 64) ∷ next c ∷ bs) x
carries_four_by c bs x low high e l h k =
    carries_step between (within low high 2) (240 + c / 262144) (next (c / 4096) ∷ next (c / 64) ∷ next c ∷ bs) x (omega arith) e
    (carries_step (within low high 2) (within 128 191 1) (next (c / 4096)) (next (c / 64) ∷ next c ∷ bs) x (omega arith) (inside_is low high 2 (next (c / 4096)) l h) (carries_last_two (c / 64) c bs x k))

carries_four : (c : ℕ) (bs x : List ℕ) → 65536 ≤ c → c < 1114112 → Carries between bs x → Carries between ((240 + c / 262144) ∷ next (c / 4096) ∷ next (c / 64) ∷ next c ∷ bs) x
carries_four c bs x l h k = ⊎_elim
    (λ (low : c < 262144). let b : 240 + c / 262144 ≡ 240 = omega arith in
    carries_four_by c bs x 144 191 (subst (λ b. moved between b ≡ puts b (within 144 191 2)) (sym b) refl) (omega arith) (omega arith) k)
    (λ (high : 262144 ≤ c). ⊎_elim
    (λ (less : c < 1048576). carries_four_by c bs x 128 191 (four_lead (240 + c / 262144) (omega arith) (omega arith)) (omega arith) (omega arith) k)
    (λ (more : 1048576 ≤ c). let b : 240 + c / 262144 ≡ 244 = omega arith in
    carries_four_by c bs x 128 143 (subst (λ b. moved between b ≡ puts b (within 128 143 2)) (sym b) refl) (omega arith) (omega arith) k)
    (cases_lt c 1048576))
    (cases_lt c 262144)

-- a character of one byte
carries_one : (c : ℕ) (bs x : List ℕ) → c < 128 → Carries between bs x → Carries between (c ∷ bs) x
carries_one c bs x h k = each (c == 34) refl (c == 92) refl (c == 10) refl
  where
    each : (a : Bool) → (c == 34) ≡ a → (b : Bool) → (c == 92) ≡ b → (d : Bool) → (c == 10) ≡ d → Carries between (c ∷ bs) x
    each true e b f d g = subst (λ y. Carries between (y ∷ bs) x) (sym (is_eq c 34 e)) (record { leads = k.leads; same = ap (λ u. 34 ∷ u) k.same })
    each false e true f d g = subst (λ y. Carries between (y ∷ bs) x) (sym (is_eq c 92 f)) (record { leads = k.leads; same = ap (λ u. 92 ∷ u) k.same })
    each false e false f true g = subst (λ y. Carries between (y ∷ bs) x) (sym (is_eq c 10 g)) (record { leads = k.leads; same = ap (λ u. 10 ∷ u) k.same })
    each false e false f false g =
        let step : begun c ≡ puts c between = rw (e, f, g, lt_true c 128 h) refl in
        let alone : escaped c ≡ c ∷ [] = rw (e, f, g) refl in
        let is : flat_map escaped (c ∷ bs) ++ x ≡ c ∷ (flat_map escaped bs ++ x) = ap (λ u. (u ++ flat_map escaped bs) ++ x) alone in
        record {
          leads = subst (Leads between) (sym is) (subst (λ m. leads_by m (flat_map escaped bs ++ x)) (sym step) k.leads);
          same = ap (out between) is ∙ ap (λ m. out_by m (flat_map escaped bs ++ x)) step ∙ ap (λ u. c ∷ u) k.same;
        }

scalar_low : (c : ℕ) → (c < 55296) ⊎ ((57344 ≤ c) × (c < 1114112)) → c < 1114112
scalar_low c s = ⊎_elim (λ (h : c < 55296). omega arith) (λ (h : (57344 ≤ c) × (c < 1114112)). h.1) s

scalar_part : (c : ℕ) → (c < 55296) ⊎ ((57344 ≤ c) × (c < 1114112)) → (c < 55296) ⊎ (57344 ≤ c)
scalar_part c s = ⊎_elim (λ (h : c < 55296). inl h) (λ (h : (57344 ≤ c) × (c < 1114112)). inr h.0) s

carries_char : (c : ℕ) (bs x : List ℕ) → IsScalar c → Carries between bs x → Carries between (encode c ++ bs) x
carries_char c bs x is k =
    let s = scalar_cases c is in
    ⊎_elim
    (λ (a : c < 128). subst (λ e. Carries between (e ++ bs) x) (sym (one c a)) (carries_one c bs x a k))
    (λ (a : 128 ≤ c). ⊎_elim
    (λ (b : c < 2048). subst (λ e. Carries between (e ++ bs) x) (sym (two c a b)) (carries_two c bs x a b k))
    (λ (b : 2048 ≤ c). ⊎_elim
    (λ (d : c < 65536). subst (λ e. Carries between (e ++ bs) x) (sym (three c b d)) (carries_three c bs x b d (scalar_part c s) k))
    (λ (d : 65536 ≤ c). subst (λ e. Carries between (e ++ bs) x) (sym (four c d)) (carries_four c bs x d (scalar_low c s) k))
    (cases_lt c 65536)) (cases_lt c 2048)) (cases_lt c 128)

and_first : (a b : Bool) → (a && b) ≡ true → a ≡ true
and_first true b e = refl
and_first false b e = e

and_second : (a b : Bool) → (a && b) ≡ true → b ≡ true
and_second true b e = e
and_second false b e = absurd (cc)

carries_chars : (cs x : List ℕ) → scalars cs ≡ true → Carries between [] x → Carries between (encodes cs) x
carries_chars [] x e k = k
carries_chars (c ∷ cs) x e k = carries_char c (encodes cs) x (and_first (scalar c) (scalars cs) e) (carries_chars cs x (and_second (scalar c) (scalars cs) e) k)

ended : Carries between [] (34 ∷ [])
ended = record { leads = refl; same = refl }

-- what is spelled leads to the end
pub spelled_leads : (v : List ℕ) → IsUtf8 v → Carries between v (34 ∷ [])
spelled_leads v u = subst (λ w. Carries between w (34 ∷ [])) u.1.1 (carries_chars u.0 (34 ∷ []) u.1.0 ended)
