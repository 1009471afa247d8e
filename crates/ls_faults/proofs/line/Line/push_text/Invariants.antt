-- What the loop `byte` of `Line::push_text` in src/line.rt keeps.

use Rattle.std.proofs.Common.{◌≡◌, ◌++◌, take}
use Rattle.ls_faults.proofs.line.Line.push_text.Given as goal

abbrev pub invariant-loop-byte : goal.invariant-loop-byte
invariant-loop-byte l = record {
  all : l.byte-items ≡ l.text;
  had : l.self ≡ l.fn.self ++ take l.byte-index l.byte-items;
}
