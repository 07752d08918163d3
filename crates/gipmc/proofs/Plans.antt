-- An engine that is asked for searches, and others than bounded model checking alone have no bound.
use Rattle.std.proofs.Common.{◌≡◌, ◌-◌, ◌^◌, Bool, refl}
use Rattle.gipmc_engines.specs.declared.engines.Engine.{Engine}
use Rattle.gipmc_engines.specs.declared.engines.Engine.TheVariants.{All, Bounded, Ic3, Induction, Invariants}
use Rattle.gipmc_engines.specs.declared.engines.Engine.TheVariants.{Explicit, Simulation}
use Rattle.gipmc.specs.Plans.{depth_alone, engine_by}

pub other_engine : (wants : Bool) (engine : Engine) → (engine ≡ All → ⊥) → engine ≡ engine_by wants engine
other_engine wants All other = absurd (other refl)
other_engine wants Simulation other = refl
other_engine wants Bounded other = refl
other_engine wants Ic3 other = refl
other_engine wants Induction other = refl
other_engine wants Explicit other = refl
other_engine wants Invariants other = refl

pub no_bound : (engine : Engine) → (engine ≡ Bounded → ⊥) → 2 ^ 64 - 1 ≡ depth_alone engine
no_bound All other = refl
no_bound Simulation other = refl
no_bound Bounded other = absurd (other refl)
no_bound Ic3 other = refl
no_bound Induction other = refl
no_bound Explicit other = refl
no_bound Invariants other = refl
