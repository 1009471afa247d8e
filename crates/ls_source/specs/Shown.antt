-- What a run shows.
use Rattle.ls_source.specs.declared.run.SourceRun.{SourceRun}
use Rattle.ls_source.specs.Progress.{Progress}
use Rattle.ls_source.specs.SeenRun.{lists_of}
use Rattle.ls_source.specs.Stands.{progress_with}

abbrev pub progress_of : SourceRun → Progress
progress_of r = progress_with r.playing (lists_of r.answers.items)
