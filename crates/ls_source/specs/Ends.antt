-- How a thread has ended.
use Rattle.std.specs.Prelude.{Bool, true, false}
use Rattle.ls_meaning.specs.Threads.{Next, Goes, Ended, Trapped}

-- by a trap
abbrev pub has_trapped : Next → Bool
has_trapped (Goes action sort) = false
has_trapped Ended = false
has_trapped Trapped = true
