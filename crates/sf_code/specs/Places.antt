-- Where a name's value stands among the values of frames.
use Rattle.std.specs.Prelude.{ℕ, zero, suc, List, [], ◌∷◌}
use Rattle.sf_value.specs.Values.{Data, first_of, second_of}
use Rattle.sf_operator.specs.Outcomes.{nonsense}
use Rattle.sf_code.specs.declared.place.Half.{Half}
use Rattle.sf_code.specs.declared.place.Half.TheVariants.{First, Second}

-- A place: how many frames further out, and the halves to take there, from the whole value inwards.
pub data Place : Type 0 where
  at_frame : ℕ → List Half → Place

-- the same place, seen from one frame further in
abbrev pub one_out : Place → Place
one_out (at_frame n hs) = at_frame (suc n) hs

-- a half of a value; what is no pair stands for itself
abbrev pub half_of : Half → Data → Data
half_of First d = first_of d
half_of Second d = second_of d

-- the part of a value that halves lead to
abbrev pub part_at : List Half → Data → Data
part_at [] d = d
part_at (h ∷ hs) d = part_at hs (half_of h d)

-- the part of the value of a frame, of which the innermost stands first; outside of all frames there is nothing
abbrev pub frame_part : ℕ → List Half → List Data → Data
frame_part n hs [] = nonsense
frame_part zero hs (v ∷ vs) = part_at hs v
frame_part (suc n) hs (v ∷ vs) = frame_part n hs vs

-- the value at a place among the values of frames, the innermost first
abbrev pub value_in_frames : Place → List Data → Data
value_in_frames (at_frame n hs) vs = frame_part n hs vs
