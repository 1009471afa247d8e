-- What an order names, as plain data.
use Rattle.std.specs.Prelude.{List, Result, Ok, Err, map, string_bytes}
use denote.Ref.{Bor}
use Rattle.ls_report.specs.Events.{Text}
use Rattle.ls_orders.specs.declared.calls.SetCall.{SetCall}
use Rattle.ls_orders.specs.declared.naming.Named.{Named}
use Rattle.ls_orders.specs.declared.naming.Named.TheVariants as named

-- the call that is borrowed
abbrev pub plain_call : Bor SetCall → SetCall
plain_call borrowed = borrowed.now

abbrev pub plain_named : Named → Result (List SetCall) Text
plain_named (named.Calls calls) = Ok (map plain_call calls.items)
plain_named (named.Unknown name) = Err (string_bytes name)
