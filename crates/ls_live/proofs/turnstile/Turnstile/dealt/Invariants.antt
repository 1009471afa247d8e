-- What the loop `thread` of `Turnstile::dealt` in src/turnstile.rt keeps.

use Rattle.std.proofs.Common.{◌≡◌, ◌-◌, ◌≤◌, [], length, map, vec_capacity}
use Rattle.std.specs.List.{range_with_len}
use Rattle.std.specs.Prelude.{All}
use Rattle.ls_code.specs.Machine.{loaded}
use Rattle.ls_live.specs.Turns.{IsSeatOf, new_seat}
use Rattle.ls_live.specs.Views.{dealer}
use Rattle.ls_live.proofs.turnstile.Turnstile.dealt.Given as goal

abbrev pub invariant-loop-thread : goal.invariant-loop-thread
invariant-loop-thread l = record {
  id : l.hand.table_id ≡ l.self.id;
  hand : l.hand.me ≡ (dealer (loaded l.self.code l.self.cells) l.self.tape (l.self.seats - l.thread) l.thread, []);
  seats : l.row.items ≡ map (new_seat l.self) (range_with_len 0 l.thread);
  of : All (IsSeatOf l.self) l.row.items;
  count : length l.row.items ≡ l.thread;
  room : l.self.seats ≤ vec_capacity l.row;
}
