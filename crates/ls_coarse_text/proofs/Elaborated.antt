-- The tree of the class text is elaborated to the checked file.
use Rattle.std.proofs.Common.{◌≡◌, ◌∷◌, [], refl, Ok, Some}
use Rattle.std.specs.Prelude.{codes}
use Rattle.ls_events.specs.declared.value.ValueType.TheVariants as types
use Rattle.ls_types_elaboration.specs.Elaboration.{ElaboratedFile, elaborated}
use Rattle.ls_parser_spelling.specs.Outlines.{file_tree}
use Rattle.ls_one_at_a_time.specs.CoarseList.{file}
use Rattle.ls_coarse_text.proofs.Tree.{tree}

-- the names of the classes, what they declare, and the checked list
abbrev pub outcome : ElaboratedFile
outcome = record {
  names = codes "Node" ∷ codes "CoarseList" ∷ [];
  signs = record {
    fields = record { name = codes "key"; type = types.Int } ∷ record { name = codes "next"; type = types.Class 0 } ∷
        [];
    methods = [];
    constructor = 0;
    parameters = types.Int ∷ [];
  } ∷ record {
    fields = record { name = codes "head"; type = types.Class 0 } ∷ record { name = codes "lock"; type = types.Lock }
        ∷ [];
    methods = record { name = codes "add"; number = 2; parameters = types.Int ∷ []; result = Some types.Boolean }
        ∷ record { name = codes "remove"; number = 3; parameters = types.Int ∷ []; result = Some types.Boolean }
        ∷ record { name = codes "contains"; number = 4; parameters = types.Int ∷ []; result = Some types.Boolean } ∷
        [];
    constructor = 1;
    parameters = [];
  } ∷ [];
  file = file;
}

-- by computation
pub is_elaborated : elaborated (file_tree tree) ≡ Ok outcome
is_elaborated = refl
