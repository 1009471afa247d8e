-- Why `word_at` in src/words.rt keeps its contract and its loops `init` and `preserved`.

use Rattle.std.proofs.Common.{arith, rules}
use Rattle.ls_find_reports.proofs.WordLemmas.{one_more, starts, word_is}
use Rattle.ls_find_reports.proofs.words.word_at.Goals as goal

pub loop-init : goal.loop-init
loop-init c = record { text = search rules; rest = starts c.args.place c.args.line.now }

pub loop-preserved : goal.loop-preserved
loop-preserved c =
    record {
      text = search rules;
      rest = one_more c.args.place c.loop.counter c.args.line.now c.loop.rest.now _ (omega arith)
          c.after_space-rest.ensures c.loop.invariant.rest;
    }

pub returns : goal.returns
returns c =
    word_is c.args.place c.loop.counter c.args.line.now c.loop.rest.now _ (omega arith) c.before_space.ensures
    c.loop.invariant.rest
