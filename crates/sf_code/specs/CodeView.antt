-- What code stands for.
use Rattle.sf_value.specs.Values.{number}
use Rattle.sf_func.specs.Callees.{callee_name}
use Rattle.sf_operator.specs.declared.operator.Operator.TheVariants.{Arithmetic, Comparison, Equality}
use Rattle.sf_operator.specs.declared.operator.Unary.TheVariants.{Event}
use Rattle.sf_code.specs.declared.code.Code as declared
use Rattle.sf_code.specs.declared.code.Code.TheVariants as codes
use Rattle.sf_code.specs.Events.{event_payload}
use Rattle.sf_code.specs.PlaceView.{place_of}
use Rattle.sf_code.specs.Codes.{Code, place, constant, paired, applied, operation, conditional, mapped, folded, called}

-- the code that code stands for
abbrev pub code_of : declared.Code → Code
code_of (codes.Place p) = place (place_of p)
code_of (codes.Constant v) = constant v
code_of (codes.Pair' a i b j) = paired (code_of i) (code_of j)
code_of (codes.Event e) = applied Event (constant (event_payload e.event))
code_of (codes.Applied' o a i) = applied o (code_of i)
code_of (codes.Operation' a i o b j) = operation (code_of i) o (code_of j)
code_of (codes.WithNumber o p n) = operation (place (place_of p)) (Arithmetic o) (constant (number n))
code_of (codes.NumberWith o n p) = operation (constant (number n)) (Arithmetic o) (place (place_of p))
code_of (codes.Compared o p n) = operation (place (place_of p)) (Comparison o) (constant (number n))
code_of (codes.Equated o p n) = operation (place (place_of p)) (Equality o) (constant (number n))
code_of (codes.Conditional' a i b j c k) = conditional (code_of i) (code_of j) (code_of k)
code_of (codes.Mapped' a i m b j) = mapped (code_of i) m (code_of j)
code_of (codes.Folded' a i o b j c k) = folded (code_of i) o (code_of j) (code_of k)
code_of (codes.Called' f a i) = called (callee_name f) (code_of i)
