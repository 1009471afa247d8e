-- What legal serial histories explain is legal.
use Rattle.ls_meaning.specs.Runs.{source_history}
use Rattle.ls_automaton.proofs.Once.{once}
use Rattle.ls_legal_laws.specs.Laws.{ExplainedIsLegal, LinearizableIsLegal}
use Rattle.ls_legal_laws.proofs.Twins.{legal}

-- the law of two histories
pub explained : ExplainedIsLegal
explained p own g h serial history gn hn og oh is x one order =
    (_, legal p own g h serial history gn hn og oh is x order.0 order.1 one)

-- the law of a program
pub linearizable : LinearizableIsLegal
linearizable f p own legal_serial h history hn oh l one =
    let s = legal_serial l.schedule l.serial in
    explained p own (source_history f p l.schedule) h s.0 history s.1 hn
    (once f p l.schedule) oh l.serial l.explains one s.2
