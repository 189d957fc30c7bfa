-- Frames and scopes: what the names of them stand for.
use Rattle.std.proofs.Common.{◌≡◌, ℕ, suc, ◌-◌, ◌<◌, ◌≤◌, take, Bool, true, false, cond, List, [], ◌∷◌, ◌++◌, length, get_or, fold, Option, Some, None, IfSome, IfNone, refl, sym, ◌∙◌, ap, arith}
use Rattle.std.specs.Prelude.{bytes_eq}
use Rattle.std.specs.Borrow.{Bor}
use Rattle.std.proofs.lemmas.List.Sums.{fold-append}
use Rattle.std.proofs.lemmas.List.{append-nil}
use Rattle.std.proofs.Math.Seq.{take-suc, take-length}
use Rattle.std.proofs.lemmas.Slice.Eq.{bytes_eq-Decides}
use Rattle.std.specs.Bool.{Decides}
use Rattle.sf_value.specs.Values.{Name, Kind}
use Rattle.sf_expr.specs.declared.meaning.Meaning.{Meaning}
use Rattle.sf_expr.specs.declared.meaning.Named.{Named}
use Rattle.sf_expr.specs.declared.frame.Frame as framed
use Rattle.sf_expr.specs.declared.scope.TypeScope as scoped
use Rattle.sf_expr.specs.Typing.{named_in}
use Rattle.sf_expr.specs.Meanings.{Meant, of_value, of_process, of_collection, meant, Entries, found_in, value_names, entry_added, place_behind, last_place}
use Rattle.sf_expr.specs.Scopes.{frame_entries, with_frame, entries_along, entries_around}

-- ## The places of names

-- two names are the same or not, whichever stands first
pub same_both_ways : (x y : Name) → bytes_eq x y ≡ bytes_eq y x
same_both_ways x y = each (bytes_eq x y) (bytes_eq y x) (bytes_eq-Decides x y) (bytes_eq-Decides y x)
  where
    each : (b c : Bool) → Decides b (x ≡ y) → Decides c (y ≡ x) → b ≡ c
    each true true d e = refl
    each true false d e = sym (e.1 (sym (d.0 refl)))
    each false true d e = d.1 (sym (e.0 refl))
    each false false d e = refl

-- a name that is put behind others is the last of its name
last_put : (x : Name) (ns : List Named) (n : Named) → last_place x (ns ++ n ∷ []) ≡ cond (bytes_eq x n.name.now) (Some (length ns)) (last_place x ns)
last_put x [] n = refl
last_put x (m ∷ ns) n = ap (place_behind (bytes_eq x m.name.now)) (last_put x ns n) ∙ each (bytes_eq x n.name.now)
  where
    each : (b : Bool) → place_behind (bytes_eq x m.name.now) (cond b (Some (length ns)) (last_place x ns)) ≡ cond b (Some (length (m ∷ ns))) (place_behind (bytes_eq x m.name.now) (last_place x ns))
    each true = refl
    each false = refl

-- so the map that has its place there places each name
pub placed_more : (x : Name) (ns ms : List Named) (n : Named) (place : ℕ) (before after : Option ℕ)
    → ms ≡ ns ++ n ∷ [] → place ≡ length ns → before ≡ last_place x ns → after ≡ cond (bytes_eq n.name.now x) (Some place) before → after ≡ last_place x ms
placed_more x ns ms n place before after more end was is =
    is ∙ ap (λ b. cond b (Some place) before) (same_both_ways n.name.now x) ∙ ap (λ i. cond (bytes_eq x n.name.now) (Some i) before) end
    ∙ ap (cond (bytes_eq x n.name.now) (Some (length ns))) was ∙ sym (last_put x ns n) ∙ ap (last_place x) (sym more)

-- what the name at the last place of a name stands for
module _ (x : Name) where
  found_past : (ns : List Named) (es : Entries) → last_place x ns ≡ None → found_in x (fold entry_added es ns) ≡ found_in x es
  found_past [] es e = refl
  found_past (n ∷ ns) es e = each (bytes_eq x n.name.now) (last_place x ns) e (found_past ns (entry_added es n))
    where
      each : (b : Bool) (o : Option ℕ) → place_behind b o ≡ None → (o ≡ None → found_in x (fold entry_added (entry_added es n) ns) ≡ cond b (Some (meant n.meaning)) (found_in x es)) → found_in x (fold entry_added (entry_added es n) ns) ≡ found_in x es
      each true None e rest = absurd cc
      each false None e rest = rest refl
      each b (Some i) e rest = absurd cc

  pub place_within : (ns : List Named) (i : ℕ) → last_place x ns ≡ Some i → i < length ns
  place_within [] i e = absurd cc
  place_within (n ∷ ns) i e = each (bytes_eq x n.name.now) (last_place x ns) e (place_within ns)
    where
      each : (b : Bool) (o : Option ℕ) → place_behind b o ≡ Some i → ((j : ℕ) → o ≡ Some j → j < length ns) → i < length (n ∷ ns)
      each true None e rest = let z : 0 ≡ i = cc in omega arith
      each false None e rest = absurd cc
      each b (Some j) e rest = let z : suc j ≡ i = cc in let below = rest j refl in omega arith

  found_last : (ns : List Named) (es : Entries) (i : ℕ) (d : Named) → last_place x ns ≡ Some i → found_in x (fold entry_added es ns) ≡ Some (meant (get_or ns i d).meaning)
  found_last [] es i d e = absurd cc
  found_last (n ∷ ns) es i d e = each (bytes_eq x n.name.now) (last_place x ns) e (found_past ns (entry_added es n)) (λ j. found_last ns (entry_added es n) j d)
    where
      each : (b : Bool) (o : Option ℕ) → place_behind b o ≡ Some i → (o ≡ None → found_in x (fold entry_added (entry_added es n) ns) ≡ cond b (Some (meant n.meaning)) (found_in x es))
          → ((j : ℕ) → o ≡ Some j → found_in x (fold entry_added (entry_added es n) ns) ≡ Some (meant (get_or ns j d).meaning)) → found_in x (fold entry_added (entry_added es n) ns) ≡ Some (meant (get_or (n ∷ ns) i d).meaning)
      each true None e past last = let z : 0 ≡ i = cc in past refl ∙ ap (λ k. Some (meant (get_or (n ∷ ns) k d).meaning)) z
      each false None e past last = absurd cc
      each b (Some j) e past last = let z : suc j ≡ i = cc in last j refl ∙ ap (λ k. Some (meant (get_or (n ∷ ns) k d).meaning)) z

-- ## Frames

pub frame_empty : (f : framed.Frame) → f.names.items ≡ [] → frame_entries f ≡ []
unfolding frame_entries
frame_empty f e = ap (fold entry_added []) e

pub frame_put : (old new : framed.Frame) (n : Named) → new.names.items ≡ old.names.items ++ n ∷ [] → frame_entries new ≡ entry_added (frame_entries old) n
unfolding frame_entries
frame_put old new n e = ap (fold entry_added []) e ∙ fold-append entry_added [] old.names.items (n ∷ [])

pub frame_found : (f : framed.Frame) (x : Name) (i : ℕ) (d : Named) → last_place x f.names.items ≡ Some i → found_in x (frame_entries f) ≡ Some (meant (get_or f.names.items i d).meaning)
unfolding frame_entries
frame_found f x i d e = found_last x f.names.items [] i d e

pub frame_absent : (f : framed.Frame) (x : Name) → last_place x f.names.items ≡ None → found_in x (frame_entries f) ≡ None
unfolding frame_entries
frame_absent f x e = found_past x f.names.items [] e

-- ## Scopes

-- those of one frame
pub entries_one : (s : scoped.TypeScope) (f : Bor framed.Frame) → s.frames.items ≡ Some f ∷ [] → entries_around s ≡ frame_entries f.now
unfolding entries_around
entries_one s f e = ap entries_along e ∙ append-nil (frame_entries f.now)

pub entries_same : (s t : scoped.TypeScope) → s.frames.items ≡ t.frames.items → entries_around s ≡ entries_around t
unfolding entries_around
entries_same s t e = ap entries_along e

pub entries_pushed : (old new : scoped.TypeScope) (f : Option (Bor framed.Frame)) → new.frames.items ≡ old.frames.items ++ f ∷ [] → entries_around new ≡ with_frame (entries_around old) f
unfolding entries_around
entries_pushed old new f e = ap entries_along e ∙ fold-append with_frame [] old.frames.items (f ∷ [])

-- the last frame is the innermost
pub along_last : (fs : List (Option (Bor framed.Frame))) (f : Option (Bor framed.Frame)) → 1 ≤ length fs → f ≡ get_or fs (length fs - 1) f → entries_along fs ≡ with_frame (entries_along (take (length fs - 1) fs)) f
along_last fs f some is =
    let n = length fs - 1 in
    let more : length fs ≡ suc n = omega arith in
    let whole : fs ≡ take n fs ++ f ∷ [] = sym (take-length fs) ∙ ap (λ k. take k fs) more ∙ take-suc fs n f (omega arith) ∙ ap (λ g. take n fs ++ g ∷ []) (sym is) in
    ap entries_along whole ∙ fold-append with_frame [] (take n fs) (f ∷ [])

-- a name that stands in the inner names hides those around them
module _ (x : Name) where
  pub found_within : (es fs : Entries) {m : Meant} → found_in x es ≡ Some m → found_in x (es ++ fs) ≡ Some m
  found_within [] fs e = absurd cc
  found_within (n ∷ es) fs {m} e = each (bytes_eq x n.0) e (found_within es fs)
    where
      each : (b : Bool) → cond b (Some n.1) (found_in x es) ≡ Some m → (found_in x es ≡ Some m → found_in x (es ++ fs) ≡ Some m) → cond b (Some n.1) (found_in x (es ++ fs)) ≡ Some m
      each true e rest = e
      each false e rest = rest e

  pub found_around : (es fs : Entries) → found_in x es ≡ None → found_in x (es ++ fs) ≡ found_in x fs
  found_around [] fs e = refl
  found_around (n ∷ es) fs e = each (bytes_eq x n.0) e (found_around es fs)
    where
      each : (b : Bool) → cond b (Some n.1) (found_in x es) ≡ None → (found_in x es ≡ None → found_in x (es ++ fs) ≡ found_in x fs) → cond b (Some n.1) (found_in x (es ++ fs)) ≡ found_in x fs
      each true e rest = absurd cc
      each false e rest = rest e

-- ## The types of names

-- the type of a value
abbrev pub value_meant : Meant → Option Kind
value_meant (of_value t) = Some t
value_meant (of_process a b) = None
value_meant (of_collection k a b) = None

abbrev pub kind_found : Option Meant → Option (Option Kind)
kind_found None = None
kind_found (Some m) = Some (value_meant m)

pub named_from : (x : Name) (es : Entries) → named_in x (value_names es) ≡ kind_found (found_in x es)
named_from x [] = refl
named_from x (e ∷ es) = before e.1 (named_from x es)
  where
    each : (b : Bool) (m : Meant) → named_in x (value_names es) ≡ kind_found (found_in x es) → cond b (Some (value_meant m)) (named_in x (value_names es)) ≡ kind_found (cond b (Some m) (found_in x es))
    each true m rest = refl
    each false m rest = rest

    before : (m : Meant) → named_in x (value_names es) ≡ kind_found (found_in x es) → named_in x (value_names ((e.0, m) ∷ es)) ≡ kind_found (cond (bytes_eq x e.0) (Some m) (found_in x es))
    before (of_value t) rest = each (bytes_eq x e.0) (of_value t) rest
    before (of_process a b) rest = each (bytes_eq x e.0) (of_process a b) rest
    before (of_collection k a b) rest = each (bytes_eq x e.0) (of_collection k a b) rest

-- a frame before other names
module _ (x : Name) (frame : Option (Bor framed.Frame)) (f : Bor framed.Frame) (is : frame ≡ Some f) where
  pub frame_hides : (r : Option Meaning) → IfSome r (λ m. found_in x (frame_entries f.now) ≡ Some (meant m)) → IfSome r (λ m. (es : Entries) → found_in x (with_frame es frame) ≡ Some (meant m))
  frame_hides None h = tt
  frame_hides (Some m) h = λ es. ap (λ g. found_in x (with_frame es g)) is ∙ found_within x (frame_entries f.now) es h

  pub frame_shows : (r : Option Meaning) → IfNone r (found_in x (frame_entries f.now) ≡ None) → IfNone r ((es : Entries) → found_in x (with_frame es frame) ≡ found_in x es)
  frame_shows None h = λ es. ap (λ g. found_in x (with_frame es g)) is ∙ found_around x (frame_entries f.now) es h
  frame_shows (Some m) h = tt
