-- What the code keeps of the number of a line.
use Rattle.std.specs.Prelude.{◌≡◌, string_bytes}
use Rattle.std.specs.Fmt.{decimal}
use Rattle.ls_trace.specs.declared.tens.Tens.{Tens}

abbrev pub IsWritten : Tens → Type 0
IsWritten t = string_bytes t.text ≡ decimal t.number
