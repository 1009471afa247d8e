-- Where a text may be cut.
use Rattle.std.proofs.Common.{◌≡◌, ◌≤◌, ◌<◌, ℕ, true, length, get_or, ap, subst, arith}
use Rattle.std.specs.Prelude.{nat_le}
use Rattle.std.specs.Option.{option_map_or}
use Rattle.std.specs.Str.{IsCharBoundary}
use Rattle.std.proofs.lemmas.Bool.{leb-true, and_parts}
use Rattle.std.proofs.lemmas.Option.{slice_get-get_or}
use Rattle.ls_explanations.specs.ProgramForms.{is_between}
use Rattle.ls_explanations.specs.Spots.{begins_character}
use Rattle.ls_explanations.specs.Tokens.{Bytes, byte_at}

-- a byte with which a character begins, and that is no character alone
high : (b : ℕ) → begins_character b ≡ true → 128 ≤ b → 192 ≤ b
high b is l = grind arith

there : (text : Bytes) (at : ℕ) → at < length text → byte_at text at ≡ get_or text at 0
there text at within = ap (λ o. option_map_or (λ b. b) o 0) (slice_get-get_or text at 0 within)

-- between two characters
pub boundary : (text : Bytes) (at : ℕ) → is_between text at ≡ true → IsCharBoundary text at
boundary text at is =
    let parts = and_parts (nat_le at (length text)) (begins_character (byte_at text at)) is in (
      leb-true at (length text) parts.0,
      λ within l. high (get_or text at 0) (subst (λ b. begins_character b ≡ true) (there text at within) parts.1) l,
    )
