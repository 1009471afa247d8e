-- The methods of a typed file have slots for `this` and the parameters.
use Rattle.std.proofs.Common.{◌<◌, length, ap, arith}
use Rattle.std.specs.Prelude.{slice_index_or}
use Rattle.std.proofs.lemmas.Option.{slice_get-get_or}
use Rattle.ls_checked.specs.CheckedTree.{Method, File}
use Rattle.ls_refs.specs.Refused.{AllSlotted}
use Rattle.ls_types_judgement.specs.Typing.{IsTypedMethod, IsTypedFile}

in_slots : (file : File) (m : Method) → IsTypedMethod file m → m.parameters < length m.slots
in_slots file m h = let e = ap length h.this in let p = h.parameters in omega (arith, e, p)

-- each method of a typed file has a local for each parameter
pub all_slotted : (file : File) → IsTypedFile file → AllSlotted file.methods
all_slotted file h = λ k d l. in_slots file (slice_index_or file.methods k d)
    (h k (slice_index_or file.methods k d) (slice_get-get_or file.methods k d l))
