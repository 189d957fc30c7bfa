-- Events that are at hand.
use Rattle.sf_value.specs.Values.{Data, event}

-- the payload of an event; what is no event stands for itself
abbrev pub event_payload : Data → Data
event_payload (event x) = x
event_payload d = d
