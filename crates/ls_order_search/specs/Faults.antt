-- The faults of the history, as faults of this crate.
use Rattle.ls_report.specs.declared.fault.HistoryFault.{HistoryFault}
use Rattle.ls_report.specs.declared.fault.HistoryFault.TheVariants as history
use Rattle.ls_order_search.specs.declared.fault.SearchFault.{SearchFault}
use Rattle.ls_order_search.specs.declared.fault.SearchFault.TheVariants as faults

abbrev pub lifted_history : HistoryFault → SearchFault
lifted_history history.Memory = faults.Memory
lifted_history (history.BadHistory at) = faults.BadHistory at
