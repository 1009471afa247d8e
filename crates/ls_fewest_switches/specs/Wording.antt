-- What is said of context switches.
use Rattle.std.specs.Prelude.{ℕ, Bool, true, false, List, [], ◌++◌, codes}
use Rattle.std.specs.Fmt.{decimal}
use Rattle.ls_fewest_switches.specs.Switches.{switches}

-- how many context switches a schedule has, if none with its history has fewer, as `; context switches 2`
abbrev pub switches_text : Bool → List ℕ → List ℕ
switches_text true schedule = codes "; context switches " ++ decimal (switches schedule)
switches_text false schedule = []
