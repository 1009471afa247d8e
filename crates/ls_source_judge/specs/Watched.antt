-- What an observer of a specification has, and what it notes.
use Rattle.std.specs.Prelude.{List, slice_get}
use Rattle.ls_automaton.specs.Held.{Held, helds_of, leaves_none}
use Rattle.ls_linearizable.specs.Judging.{Verdict}
use Rattle.ls_source_judge.specs.Stepped.{pairs_in}
use Rattle.ls_source_judge.specs.declared.tabling.Noted.{Noted}
use Rattle.ls_source_judge.specs.declared.tabling.Noted.TheVariants.{Known, Other}
use Rattle.ls_source_judge.specs.declared.watched.PairsObserver.{PairsObserver}

-- what is left, where this was noted
abbrev pub pairs_of : PairsObserver → Noted → List Held
pairs_of o (Known n) = pairs_in (slice_get o.table.known.items n)
pairs_of o (Other p) = helds_of p.pairs.items

-- what is left where nothing has happened
abbrev pub first_pairs : PairsObserver → List Held
first_pairs o = pairs_of o (Known 0)

-- Noted is how each history is judged that goes on: bad, if it leaves none of the pairs.
abbrev pub verdict_of : PairsObserver → Noted → Verdict
verdict_of o noted = leaves_none o.rows.items (pairs_of o noted)

abbrev pub first_verdict : PairsObserver → Verdict
first_verdict o = verdict_of o (Known 0)
