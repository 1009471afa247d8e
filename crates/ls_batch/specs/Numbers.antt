-- Histories as keys, with a number that tells most of them apart.
use Rattle.std.specs.Prelude.{ℕ, ◌+◌, ◌*◌, ◌%◌, ◌^◌, List, [], ◌∷◌, map}
use Rattle.std.specs.declared.cmp.Ordering.{Ordering}
use Rattle.std.specs.Cmp.Lexicographic.{slice_cmp}
use Rattle.std.specs.Ordering.{nat_cmp, ordering_then}
use Rattle.ls_batch.specs.contracts.keys.EventKeyOrd.TheImpl as event_ord
use Rattle.ls_batch.specs.declared.keys.EventKey.{EventKey}
use Rattle.ls_batch.specs.declared.keys.HistoryKey.{HistoryKey}
use Rattle.ls_batch.specs.declared.keys.HappeningKey.{HappeningKey}
use Rattle.ls_batch.specs.declared.keys.HappeningKey.TheVariants as outcome
use Rattle.ls_batch.specs.Keys.{event_key}
use Rattle.ls_batch.specs.Tallies.{History}

abbrev pub ends : HappeningKey → ℕ
ends outcome.Called = 0
ends o = 1

abbrev pub next_number : ℕ → EventKey → ℕ
next_number n k = ((n * 1099511628211 % 2 ^ 64 + k.thread) % 2 ^ 64 * 2 % 2 ^ 64 + ends k.happening) % 2 ^ 64

-- the number after these events
abbrev pub number_onto : ℕ → List EventKey → ℕ
number_onto n [] = n
number_onto n (k ∷ ks) = number_onto (next_number n k) ks

-- a history as it stands in the order
pub record Key : Type 0 where
  pub number : ℕ
  pub events : List EventKey

abbrev pub key_of : History → Key
key_of h = record { number = number_onto 0 (map event_key h); events = map event_key h }

abbrev pub plain_key : HistoryKey → Key
plain_key k = record { number = k.number; events = k.events.items }

abbrev pub key_cmp : Key → Key → Ordering
key_cmp k l = ordering_then (nat_cmp k.number l.number) (slice_cmp (event_ord.ghosts).cmp k.events l.events)
