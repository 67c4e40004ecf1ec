-- Two nodes that were fed with each other's bytes.
use Rattle.std.proofs.Common.{◌≡◌, ℕ, List, ◌++◌, Option, Some, None, Result, Ok, sym, ap, subst, ◌∙◌}
use Rattle.std.proofs.lemmas.List.{append_cancel_left}
use Rattle.std.specs.FinMap.{entries}
use Rattle.std.specs.Io.KnownBytes.{Appends, Consumes}
use Rattle.mpi_model.specs.Side.{Side}
use Rattle.trace_know.specs.View.{View, join}
use Rattle.trace_node.specs.Node.{Held}
use Rattle.trace_wire.specs.declared.fault.WireFault.{WireFault}
use Rattle.trace_wire.specs.FirstFault.{frame_at}
use Rattle.trace_wire.specs.declared.version.Version.{Version}
use Rattle.trace_wire.specs.declared.version.Version.TheVariants.{Two}
use Rattle.trace_wire.specs.Cells.{Entry}
use Rattle.trace_wire.specs.Frames.{HasFrame, HasFrameAs, frame, frame_as, frame_of}
use Rattle.trace_cluster.specs.Exchange.{ExchangesFrames, Follows, Got, Leads, Wrote}
use Rattle.trace_cluster.specs.Stream.{IsFedBy, Stream}

-- what was sent, where bytes were appended
sent_is : (a b : Option (List ℕ)) (old sent bytes : List ℕ) → a ≡ Some old → b ≡ Some (old ++ sent) → Appends a b bytes → sent ≡ bytes
sent_is a b old sent bytes p q written =
    let told : Appends (Some old) (Some (old ++ sent)) bytes = subst (λ (x : Option (List ℕ)). Appends (Some old) x bytes) q (subst (λ (x : Option (List ℕ)). Appends x b bytes) p written) in
    append_cancel_left old sent bytes told

-- where known bytes were consumed, they stood in front
front_is : (b : Option (List ℕ)) (known bytes : List ℕ) → Consumes (Some known) b bytes → (rest : List ℕ) × (known ≡ bytes ++ rest)
front_is None known bytes read = absurd read
front_is (Some rest) known bytes read = (rest, read)

abbrev done : {A : Type 0} → A → Result A WireFault
done x = Ok x

ok_is : {A : Type 0} (x y : A) → done x ≡ done y → x ≡ y
ok_is x y e = cc

-- two frames that stand in front of one byte string are of the same cells
one_front : ((version : Version) (es : List Entry) (rest : List ℕ) → HasFrameAs version es → frame_at (frame_as version es ++ rest) ≡ Ok (es, rest)) →
    (one other : Version) (es fs : List Entry) (more rest : List ℕ) → HasFrameAs one es → HasFrameAs other fs → frame_as one es ++ more ≡ frame_as other fs ++ rest → es ≡ fs
one_front again one other es fs more rest he hf e =
    ap (λ (p : List Entry × List ℕ). p.0) (ok_is (es, more) (fs, rest) (sym (again one es more he) ∙ ap frame_at e ∙ again other fs rest hf))

module _
    (again : (version : Version) (es : List Entry) (rest : List ℕ) → HasFrameAs version es → frame_at (frame_as version es ++ rest) ≡ Ok (es, rest))
    (views : (v w : View) → HasFrame (entries v) → HasFrame (entries w) → frame_of v ≡ frame_of w → v ≡ w)
    (associative : (a b c : View) → join (join a b) c ≡ join a (join b c))
    (commutative : (a b : View) → join a b ≡ join b a)
    (idempotent : (a : View) → join a a ≡ a) where
  -- What is read of a stream that is fed with a frame is what that frame tells.
  heard_is_sent : (reader rest before after : Side) (know heard : View) → IsFedBy reader before after → Wrote before after know → Got reader rest heard → heard ≡ know
  heard_is_sent reader rest before after know heard fed wrote got =
      let sent : fed.1 ≡ frame_of know = sent_is before.bytes after.bytes fed.0 fed.1 (frame_of know) fed.3 fed.4 wrote.1 in
      let text = frame_as got.0.0 (entries heard) in
      let read : Consumes (Some (fed.1 ++ fed.2)) rest.bytes text = subst (λ (x : Option (List ℕ)). Consumes x rest.bytes text) fed.5 got.0.1 in
      let front = front_is rest.bytes (fed.1 ++ fed.2) text read in
      let same : entries heard ≡ entries know = one_front again got.0.0 Two (entries heard) (entries know) front.0 fed.2 got.0.2 wrote.0 (sym front.1 ∙ ap (λ l. l ++ fed.2) sent) in
      views heard know (subst (λ (es : List Entry). HasFrame es) (sym same) wrote.0) wrote.0 (ap frame same)

  -- Who lent what it knows heard all that the follower knew by then, and that is the join of both.
  pub frames_meet : (mine mine_after theirs theirs_after : Stream) (know heard : View) (follower followed : Held) (ok : Unit {0})
      → ExchangesFrames mine mine_after know (Ok heard) → Follows theirs theirs_after follower followed (Ok ok)
      → IsFedBy theirs.reads mine.writes mine_after.writes → IsFedBy mine.reads theirs.writes theirs_after.writes
      → (join know heard ≡ join know follower.know) × (followed.know ≡ join know follower.know)
  frames_meet mine mine_after theirs theirs_after know heard follower followed ok exchanges follows feeds_follower feeds_leader =
      let there = follows.0 in
      let is_sent : there.0 ≡ know = heard_is_sent theirs.reads theirs_after.reads mine.writes mine_after.writes know there.0 feeds_follower exchanges.0 there.1 in
      let is_sent_back : heard ≡ followed.know = heard_is_sent mine.reads mine_after.reads theirs.writes theirs_after.writes followed.know heard feeds_leader follows.1 exchanges.1 in
      let both : followed.know ≡ join know follower.know =
      ap (λ (h : Held). h.know) there.2.1 ∙ ap (λ (v : View). join follower.know v) is_sent ∙ commutative follower.know know in
      let back : join know heard ≡ join know follower.know =
      ap (λ (v : View). join know v) (is_sent_back ∙ both) ∙ sym (associative know know follower.know) ∙ ap (λ (v : View). join v follower.know) (idempotent know) in
      (back, both)

  -- The same of two nodes, of which the first led.
  pub nodes_meet : (mine mine_after theirs theirs_after : Stream) (leader led follower followed : Held) (ok : Unit {0})
      → Leads mine mine_after leader led (Ok ok) → Follows theirs theirs_after follower followed (Ok ok)
      → IsFedBy theirs.reads mine.writes mine_after.writes → IsFedBy mine.reads theirs.writes theirs_after.writes
      → (led.know ≡ join leader.know follower.know) × (followed.know ≡ join leader.know follower.know)
  nodes_meet mine mine_after theirs theirs_after leader led follower followed ok leads follows feeds_follower feeds_leader =
      let here = leads.1 in
      let met = frames_meet mine mine_after theirs theirs_after leader.know here.0 follower followed ok (leads.0, here.1) follows feeds_follower feeds_leader in
      (ap (λ (h : Held). h.know) here.2.1 ∙ met.0, met.1)
