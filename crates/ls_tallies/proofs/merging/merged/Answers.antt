-- Why `merged` in src/merging.rt keeps its contract.

use Rattle.std.proofs.Common.{map, refl, subst, is_lt, IsPermutation}
use Rattle.std.proofs.lemmas.List.Sorted.{IsPermutation-map}
use Rattle.ls_tallies.specs.Plain.{plain_row}
use Rattle.ls_tallies.specs.Tallies.{row_cmp}
use Rattle.ls_tallies.specs.contracts.row.RowOrd.TheImpl as row_ord
use Rattle.ls_tallies.proofs.Sorted.{sorted_map}
use Rattle.ls_tallies.proofs.merging.merged.Goals as goal

pub returns : goal.returns
returns c =
    record {
      gathers = subst (λ rows. IsPermutation rows (map plain_row c.sort.new.self.items)) c.in_ok-all.ensures
          (IsPermutation-map plain_row c.in_ok-all.all.items c.sort.new.self.items c.in_ok-sort.ensures.permutation);
      order = sorted_map plain_row (λ x y. is_lt ((row_ord.ghosts).cmp x y)) (λ x y. is_lt (row_cmp x y))
          c.sort.new.self.items (λ x y. refl) c.in_ok-sort.ensures.sorted;
    }
