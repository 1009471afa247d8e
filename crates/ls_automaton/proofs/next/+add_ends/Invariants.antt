-- Why the recursion of `add_ends` in src/next.rt ends.

use Rattle.ls_automaton.proofs.next.+add_ends.Given as goal

abbrev pub decreases-add_ends : goal.decreases-add_ends
decreases-add_ends l = l.left
