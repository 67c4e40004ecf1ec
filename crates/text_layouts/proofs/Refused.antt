-- Why nothing is made, by what refuses it.
use Rattle.std.proofs.Common.{◌≡◌, ◌<◌, ◌⊎◌, ℕ, List, None, length, inl, inr, refl, subst}
use Rattle.mpi_model.specs.declared.layout.Sends.{Sends}
use Rattle.mpi_model.specs.declared.layout.TheConstants.{MOST_RANKS}
use Rattle.mpi_model.specs.Communicators.{Communicator}
use Rattle.mpi_model.specs.declared.layout.fault.LayoutFault.TheVariants.{RankCount}
use Rattle.comm_makings.specs.World.{world_fault, world_of}
use Rattle.comm_makings.specs.declared.calls.RankCalls.{RankCalls}
use Rattle.text_layouts.specs.Making.{AreObjectsOf, RefusesLayout, RefusesMaking, RefusesWorld, TellsOneWorld}
use Rattle.text_layouts.specs.Sizes.{size_fault}
use Rattle.text_layouts.specs.declared.fault.MadeFault.{MadeFault}
use Rattle.text_layouts.specs.declared.fault.MadeFault.TheVariants as faults

pub by_count : (ranks : List RankCalls) → (length ranks ≡ 0) ⊎ (MOST_RANKS < length ranks) → RefusesMaking ranks (faults.Layout RankCount)
by_count ranks h = inl (refl, h)

pub by_world : (ranks : List RankCalls) (fault : MadeFault) → size_fault ranks ≡ None → RefusesWorld ranks fault → RefusesMaking ranks fault
by_world ranks faults.Memory none h = tt
by_world ranks (faults.Size rank size) none h = absurd h
by_world ranks (faults.World first second) none h = (none, h)
by_world ranks (faults.Layout fault) none h = absurd h
by_world ranks faults.LayoutFile none h = absurd h
by_world ranks faults.ManifestFile none h = absurd h

layout_refused : (ranks : List RankCalls) (sends : Sends) (comms : List Communicator) (fault : MadeFault) → TellsOneWorld ranks → AreObjectsOf sends ranks comms
    → RefusesLayout (length ranks) (world_of ranks) comms fault → RefusesMaking ranks fault
layout_refused ranks sends comms faults.Memory one are h = tt
layout_refused ranks sends comms (faults.Size rank size) one are h = absurd h
layout_refused ranks sends comms (faults.World first second) one are h = absurd h
layout_refused ranks sends comms (faults.Layout fault) one are h = inr (one, record { comms = comms; sends = sends; are = are; rule = h })
layout_refused ranks sends comms faults.LayoutFile one are h = absurd h
layout_refused ranks sends comms faults.ManifestFile one are h = absurd h

pub by_layout : (ranks : List RankCalls) (n world : ℕ) (sends : Sends) (comms : List Communicator) (fault : MadeFault) → n ≡ length ranks → world ≡ world_of ranks
    → size_fault ranks ≡ None → world_fault ranks ≡ None → AreObjectsOf sends ranks comms → RefusesLayout n world comms fault → RefusesMaking ranks fault
by_layout ranks n world sends comms fault n_is world_is size number are h =
    layout_refused ranks sends comms fault (size, number) are
    (subst (λ (m : ℕ). RefusesLayout m (world_of ranks) comms fault) n_is (subst (λ (w : ℕ). RefusesLayout n w comms fault) world_is h))
