-- What is done with a network's text.
use Rattle.std.specs.Prelude.{◌≡◌, ℕ, List, Option, codes}
use Rattle.std.specs.Io.KnownBytes.{Keeps, Appends}
use Rattle.sf_refusal.specs.declared.refusal.Refusal.{Refusal}
use Rattle.sf_refusal.specs.Refusals.{OrMemory}
use Rattle.sf_func.specs.Registries.{TypesByName, AnswersByName}
use Rattle.sf_term.specs.Trees.{Templates}
use Rattle.sf_player.specs.Refusals.{IsAcceptedText, IsNoNetwork, IsRefusedFor}
use Rattle.sf_player.specs.Dumps.{IsDump}
use Rattle.sf_player.specs.Counting.{WritesFront}
use Rattle.sf_player.specs.Telling.{Plays}
use Rattle.sf_player.specs.declared.end.PlayEnd.{PlayEnd}
use Rattle.sf_player.specs.declared.end.PlayEnd.TheVariants.{Done, Network, WriteFault}
use Rattle.sfplay.specs.declared.task.Task.{Task}
use Rattle.sfplay.specs.declared.task.Task.TheVariants as tasks
use Rattle.sfplay.specs.Functions.{types_offered, AreOffered}

-- a text was written: the whole of it, or a front of it where the writer failed
pub data WritesText (held holds : Option (List ℕ)) (text : List ℕ) : PlayEnd → Type 0 where
  in_full : Appends held holds text → WritesText held holds text Done
  in_part : WritesFront held holds text → WritesText held holds text WriteFault

-- a network's text was refused, and nothing written; or what is wanted of it was written
pub data AnswersText (Refused : Refusal → Type 0) (Wanted : List ℕ → Type 0) (held holds : Option (List ℕ)) : PlayEnd → Type 0 where
  refuses : {r : Refusal} → Refused r → Keeps held holds → AnswersText Refused Wanted held holds (Network r)
  says : {text : List ℕ} {e : PlayEnd} → Wanted text → WritesText held holds text e → AnswersText Refused Wanted held holds e

-- of a text that is accepted with stored functions of these types, the line `ok`
abbrev pub Checks : TypesByName → (net : List ℕ) → (held holds : Option (List ℕ)) → PlayEnd → Type 0
Checks types net = AnswersText (OrMemory (IsRefusedFor types net)) (λ text. ((p : Templates) × IsAcceptedText types net p) × (text ≡ codes "ok\n"))

-- of a text that is a network's, the canonical text of that network
abbrev pub Dumps : (net : List ℕ) → (held holds : Option (List ℕ)) → PlayEnd → Type 0
Dumps net = AnswersText (OrMemory (IsNoNetwork net)) (λ text. (p : Templates) × IsDump net p text)

-- what the program reads and writes for a task: only to play it reads
abbrev pub DoesTask : Task → (net : List ℕ) → (before after held holds : Option (List ℕ)) → PlayEnd → Type 0
DoesTask tasks.Check net before after held holds e = Keeps before after × Checks types_offered net held holds e
DoesTask tasks.Dump net before after held holds e = Keeps before after × Dumps net held holds e
DoesTask (tasks.Play options) net before after held holds e =
    (answers : AnswersByName) × AreOffered answers × Plays options.probes types_offered answers net before after held holds e
