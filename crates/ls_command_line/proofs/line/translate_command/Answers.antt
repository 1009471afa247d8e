-- Why `translate_command` in src/line.rt keeps its clause `shape`.

use Rattle.ls_command_line.proofs.line.translate_command.Goals as goal

pub returns-clause-shape : goal.returns-clause-shape
returns-clause-shape c =
    let to = c.side_option.ensures.rule in (
      to.0,
      to.1,
      c.with_option-2.ensures.shape _ _ (c.with_option.ensures.shape _ _ c.class_command-command.ensures.shape to.2)
          c.cells_option.ensures.rule,
    )
