-- Where runs stand.
use Rattle.std.specs.Prelude.{◌≡◌, map}
use Rattle.ls_source_store.specs.SeenStore.{store_of}
use Rattle.ls_source.specs.declared.playing.Playing.{Playing}
use Rattle.ls_source.specs.SeenThread.{thread_of}
use Rattle.ls_serial_search.specs.declared.marks.Mark.{Mark}

-- it has the store of the run, and the run's threads still have to do what it says
pub record IsMarkOf (m : Mark) (r : Playing) : Type 0 where
  pub store : store_of m.store ≡ store_of r.store_and_events.store
  pub threads : map thread_of m.threads.items ≡ map thread_of r.threads.items
