-- What the loop `next` of `search` in src/searching.rt keeps, and why the loop ends.

use Rattle.std.proofs.Common.{◌-◌, ◌≡◌, ◌<◌, ◌≤◌, length, ℕ, ◌+◌}
use Rattle.std.specs.Prelude.{Some, slice_get}
use Rattle.ls_family_search.specs.Searched.{PassesAt}
use Rattle.ls_family_search.specs.Watching.{GoesOn}
use Rattle.ls_family_search.specs.declared.judging.Passed.{Passed}
use Rattle.ls_family_search.proofs.searching.search.Given as goal

abbrev pub invariant-loop-next : goal.invariant-loop-next
invariant-loop-next g l = record {
  passed : (k : ℕ) (said : Passed) → slice_get l.passed.items k ≡ Some said →
      PassesAt l.programs (g.J.Judge.IsGood l.judge) (g.J.Judge.IsCut l.judge) l.from (l.from + k) said;
  count : l.from + length l.passed.items ≡ l.next;
  within : l.next ≤ l.to;
  some : 0 < l.size;
  watched : GoesOn g.W.SearchWatch.Since l.fn.watch l.watch;
}

abbrev pub decreases-loop-next : goal.decreases-loop-next
decreases-loop-next g l = l.to - l.next
