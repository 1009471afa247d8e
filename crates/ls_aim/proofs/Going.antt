-- The steps of a thread until it stops.
use Rattle.ls_events.specs.Limits.{most_steps}
use Rattle.std.proofs.Common.{◌≡◌, ◌∙◌, ◌+◌, ◌-◌, ◌<◌, ◌≤◌, ℕ, zero, suc, List, [], ◌∷◌, ◌++◌, length, refl, sym, ap}
use Rattle.std.proofs.Common.{arith, Result, Ok, Err}
use Rattle.std.proofs.lemmas.List.{length-append}
use Rattle.ls_labels.specs.Names.{Names}
use Rattle.ls_aim.specs.Aims.{Arrived, GoesOn, Missed, Sight, by_sight, gone_to, room_after, sight}
use Rattle.ls_aim.specs.Reading.{Stop}
use Rattle.ls_aim.specs.Runs.{Run, after_step}
use Rattle.ls_aim.specs.declared.fault.AimFault.{AimFault}
use Rattle.ls_aim.specs.declared.fault.AimFault.TheVariants as fault

module _ (names : Names) (at thread : ℕ) (r : Run) (stop : Stop) (steps : List ℕ) where
  pub arrives : (room : ℕ) →
      sight names at r thread stop ≡ Arrived →
      gone_to names at thread r stop steps room ≡ Ok steps
  arrives zero e = ap (λ s. by_sight s steps (λ still. Err (fault.TooFar at))) e
  arrives (suc room) e = ap
      (λ s. by_sight s steps (λ still. gone_to names at thread (after_step names r thread) still (steps ++ thread ∷ [])
      room)) e

  pub misses : (room : ℕ) (f : AimFault) →
      sight names at r thread stop ≡ Missed f →
      gone_to names at thread r stop steps room ≡ Err f
  misses zero f e = ap (λ s. by_sight s steps (λ still. Err (fault.TooFar at))) e
  misses (suc room) f e = ap
      (λ s. by_sight s steps (λ still. gone_to names at thread (after_step names r thread) still (steps ++ thread ∷ [])
      room)) e

  pub goes_on : (still : Stop) → length steps < most_steps → sight names at r thread stop ≡ GoesOn still
      → gone_to names at thread (after_step names r thread) still (steps ++ thread ∷ [])
      (room_after (steps ++ thread ∷ []))
      ≡ gone_to names at thread r stop steps (room_after steps)
  goes_on still few e =
      let more : room_after steps ≡ suc (room_after (steps ++ thread ∷ [])) = omega
      (arith, length-append steps (thread ∷ [])) in
      sym (ap (gone_to names at thread r stop steps) more
      ∙ ap (λ s. by_sight s steps (λ next. gone_to names at thread (after_step names r thread) next
      (steps ++ thread ∷ []) (room_after (steps ++ thread ∷ [])))) e)
