-- What is made of values with a function.
use Rattle.std.specs.Prelude.{cond, Option, Some, None}
use Rattle.sf_value.specs.Values.{KeyData, number_key, text_key, Data, number, text, pair, no_event, event, Rows, no_rows, row}
use Rattle.sf_operator.specs.declared.operator.Mapping.{Mapping}
use Rattle.sf_operator.specs.declared.operator.Mapping.TheVariants as mapping
use Rattle.sf_operator.specs.declared.operator.Folding.{Folding}
use Rattle.sf_operator.specs.declared.operator.Folding.TheVariants as folding
use Rattle.sf_operator.specs.Outcomes.{Evaluated, answer, ◌>>=◌, known}
use Rattle.sf_operator.specs.Operations.{truth_held, payload_held, rows_held, event_of}

-- the event of a payload, where a function is true of it
abbrev pub kept_payload : Option Data → (Data → Evaluated Data) → Evaluated Data
kept_payload None f = answer no_event
kept_payload (Some x) f = f x >>= λ b. known (truth_held b) (λ c. answer (cond c (event x) no_event))

-- the event of what a function makes of a payload
abbrev pub mapped_payload : Option Data → (Data → Evaluated Data) → Evaluated Data
mapped_payload None f = answer no_event
mapped_payload (Some x) f = f x >>= λ y. answer (event y)

-- a form on a value with a function, which is asked only where it has an argument
abbrev pub mapped_value : Mapping → Data → (Data → Evaluated Data) → Evaluated Data
mapped_value mapping.Let d f = f d
mapped_value mapping.Filter d f = known (payload_held d) (λ e. kept_payload e f)
mapped_value mapping.Map d f = known (payload_held d) (λ e. mapped_payload e f)

-- what a function makes of a payload, or a value where there is none
abbrev pub matched_payload : Option Data → Evaluated Data → (Data → Evaluated Data) → Evaluated Data
matched_payload None other f = other
matched_payload (Some x) other f = f x

-- two events made one: where both occur, by a function of both payloads
abbrev pub merged_by : Option Data → Option Data → (Data → Evaluated Data) → Evaluated Data
merged_by None g f = answer (event_of g)
merged_by (Some x) None f = answer (event x)
merged_by (Some x) (Some y) f = f (pair x y) >>= λ z. answer (event z)

-- a key, as a value
abbrev pub value_of_key : KeyData → Data
value_of_key (number_key z) = number z
value_of_key (text_key s) = text s

-- what a function makes of a value and the rows after it, one after the other
abbrev pub folded_rows : Rows → Data → (Data → Evaluated Data) → Evaluated Data
folded_rows no_rows d f = answer d
folded_rows (row k x rs) d f = f (pair d (pair (value_of_key k) x)) >>= λ c. folded_rows rs c f

-- A form on two values with a function, which is asked only where it has an argument. The second value is looked at always, but by `match` only
-- where there is no payload.
abbrev pub folded_value : Folding → Data → Evaluated Data → (Data → Evaluated Data) → Evaluated Data
folded_value folding.Match d other f = known (payload_held d) (λ e. matched_payload e other f)
folded_value folding.Merge d other f = other >>= λ c. known (payload_held d) (λ e. known (payload_held c) (λ g. merged_by e g f))
folded_value folding.Fold d other f = other >>= λ c. known (rows_held d) (λ rs. folded_rows rs c f)
