-- What a layout has of what the ranks make, by whether all that calls name fits.
use Rattle.std.proofs.Common.{◌≡◌, ℕ, List, false, inl, inr, length, subst, true}
use Rattle.mpi_model.specs.Communicators.{Communicator}
use Rattle.mpi_model.specs.declared.layout.Sends.{Sends}
use Rattle.comm_makings.specs.Derived.{IsSound}
use Rattle.comm_makings.specs.World.{world_of}
use Rattle.comm_makings.specs.declared.answer.Choice.TheVariants as choices
use Rattle.comm_makings.specs.declared.calls.RankCalls.{RankCalls}
use Rattle.text_layouts.specs.Making.{AreObjectsOf, fits}

pub all_fit : (ranks : List RankCalls) (n world : ℕ) (sends : Sends) (comms : List Communicator) → n ≡ length ranks → world ≡ world_of ranks
    → IsSound choices.Named (world_of ranks) ranks comms → fits n world sends comms ≡ true → AreObjectsOf sends ranks comms
all_fit ranks n world sends comms n_is world_is sound h =
    inl (sound, subst (λ (m : ℕ). fits m (world_of ranks) sends comms ≡ true) n_is (subst (λ (w : ℕ). fits n w sends comms ≡ true) world_is h))

pub used_are : (ranks : List RankCalls) (n world : ℕ) (sends : Sends) (named comms : List Communicator) → n ≡ length ranks → world ≡ world_of ranks
    → IsSound choices.Named (world_of ranks) ranks named → fits n world sends named ≡ false → IsSound choices.Used (world_of ranks) ranks comms → AreObjectsOf sends ranks comms
used_are ranks n world sends named comms n_is world_is sound h used =
    inr (
      used,
      record {
        named = named;
        sound = sound;
        too_much = subst (λ (m : ℕ). fits m (world_of ranks) sends named ≡ false) n_is (subst (λ (w : ℕ). fits n w sends named ≡ false) world_is h);
      },
    )
