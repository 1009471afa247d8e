-- How many seeds gave each history, and the least of them.
use Rattle.std.specs.Prelude.{◌≡◌, ℕ, ◌+◌, ◌-◌, ◌^◌, min, Bool, List, [], ◌∷◌, Option, Some, None, if◌then◌else◌}
use Rattle.std.specs.BTreeMap.{btree_map_len, get_by}
use Rattle.std.specs.Ordering.{is_eq}
use Rattle.ls_batch.specs.Numbers.{Key, key_cmp, key_of, plain_key}
use Rattle.ls_batch.specs.Tallies.{History}
use Rattle.ls_batch.specs.declared.counting.Count.{Count}
use Rattle.ls_batch.specs.declared.counting.Counts.{Counts}

-- a seed and the history that it gave
pub record Run : Type 0 where
  pub seed : ℕ
  pub history : History

abbrev pub run : ℕ → History → Run
run s h = record { seed = s; history = h }

-- of one seed
abbrev pub one_of : ℕ → Option Count
one_of s = Some (record { count = 1; seed = s })

-- of 2^64 or more seeds it would be the greatest number of 64 bits
abbrev pub added : Count → Count → Count
added c d = record { count = min (c.count + d.count) (2 ^ 64 - 1); seed = min c.seed d.seed }

-- two counts of one history, of which there may be none
abbrev pub both : Option Count → Option Count → Option Count
both None d = d
both (Some c) None = Some c
both (Some c) (Some d) = Some (added c d)

abbrev pub are_same : Key → Key → Bool
are_same k l = is_eq (key_cmp k l)

-- how many of the runs gave the history with this key, and the least of their seeds
abbrev pub counted : List Run → Key → Option Count
counted [] k = None
counted (r ∷ rs) k = both (if are_same k (key_of r.history) then one_of r.seed else None) (counted rs k)

-- what is counted under this key
abbrev pub count_at : Counts → Key → Option Count
count_at c k = get_by (λ l. key_cmp k (plain_key l)) c.counts

abbrev pub histories_in : Counts → ℕ
histories_in c = btree_map_len c.counts

-- the counts are those of the runs, in whatever order these are
abbrev pub AreCounts : List Run → Counts → Type 0
AreCounts rs c = (k : Key) → count_at c k ≡ counted rs k

-- the runs of consecutive seeds
abbrev pub runs_from : ℕ → List History → List Run
runs_from first [] = []
runs_from first (h ∷ hs) = run first h ∷ runs_from (first + 1) hs
