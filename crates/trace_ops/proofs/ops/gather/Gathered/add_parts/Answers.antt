use Rattle.std.proofs.Common.{◌≡◌, ◌<◌, ◌+◌, ◌-◌, ℕ, List, ◌++◌, refl, sym, ◌∙◌, ap, subst, arith, length, drop, get_or}
use Rattle.std.specs.Prelude.{ℤ, pos, Option, Some, None}
use Rattle.std.specs.List.{cons_option}
use Rattle.trace_ops.specs.Called.{plain_called}
use Rattle.trace_ops.specs.Calls.{Entry}
use Rattle.trace_ops.specs.Gathered.{IsGathered}
use Rattle.trace_ops.specs.Request.{started_by}
use Rattle.trace_ops.specs.Steps.{Step, begun_step, part_of, parts_from}
use Rattle.trace_ops.proofs.Parts.{all_parts, no_parts, parts_more}
use Rattle.trace_ops.proofs.ops.gather.Gathered.add_parts.Goals as goal

pub loop-place-init : goal.loop-place-init
loop-place-init c = record {
  within = omega arith;
  few = refl;
  gathered = λ before count h later g.
      let read = plain_called c.args.called.now in
      let listed : c.started_by-requests.result.now ≡ started_by read.call = c.started_by-requests.ensures in
      subst (λ (l : List Step). IsGathered c.args.layout.now c.args.rank c.args.calls.now (l ++ later) c.args.self.now) (sym (no_parts before read (length c.started_by-requests.result.now) (ap (λ (l : List ℤ). length l) listed))) g;
}

-- what is gathered with the part at this place, where the requests are those of the call
module _ (read : Entry) (before : List Entry) (later : List Step) (requests : List ℤ) (place m : ℕ) (o : Option Step) (up : place ≡ m + 1) (lt : m < length requests)
    (listed : requests ≡ started_by read.call) (part : o ≡ part_of before read m (get_or requests m (pos 0))) where
  count : length requests ≡ length (started_by read.call)
  count = ap (λ (l : List ℤ). length l) listed

  front : parts_from before read m (drop m (started_by read.call)) ≡ cons_option o (parts_from before read (m + 1) (drop (m + 1) (started_by read.call)))
  front = parts_more before read m o (let e = count in omega (arith, lt, e)) (part ∙ ap (λ (l : List ℤ). part_of before read m (get_or l m (pos 0))) listed)

  moved : (P : List Step → Type 0) → P (parts_from before read place (drop place (started_by read.call)) ++ later) → P (parts_from before read (m + 1) (drop (m + 1) (started_by read.call)) ++ later)
  moved P h = subst (λ (k : ℕ). P (parts_from before read k (drop k (started_by read.call)) ++ later)) up h

  joined : (P : List Step → Type 0) → P (cons_option o (parts_from before read (m + 1) (drop (m + 1) (started_by read.call))) ++ later) → P (parts_from before read m (drop m (started_by read.call)) ++ later)
  joined P h = subst (λ (l : List Step). P (l ++ later)) (sym front) h

pub loop-place-preserved-in-Continue-1 : goal.loop-place-preserved-in-Continue-1
loop-place-preserved-in-Continue-1 c = record {
  within = omega arith;
  few = c.in_ok-add_part-in-Some.ensures.few ∙ c.loop-place.invariant.few;
  gathered = λ before count h later g.
      let read = plain_called c.args.called.now in
      let requests = c.started_by-requests.result.now in
      let m = c.loop-place.place - 1 in
      let one = Some (begun_step c.args.n read c.in-Some.part) in
      let listed : requests ≡ started_by read.call = c.started_by-requests.ensures in
      let part : one ≡ part_of before read m (get_or requests m (pos 0)) = ap (λ (n : ℕ). Some (begun_step n read c.in-Some.part)) (sym count) ∙ c.in-Some.ensures before read listed h in
      let old = moved read before later requests c.loop-place.place m one (omega arith) (omega arith) listed part
      (λ (l : List Step). IsGathered c.args.layout.now c.args.rank c.args.calls.now l c.loop-place.self) (c.loop-place.invariant.gathered before count h later g) in
      joined read before later requests c.loop-place.place m one (omega arith) (omega arith) listed part
      (λ (l : List Step). IsGathered c.args.layout.now c.args.rank c.args.calls.now l c.add_part.new.self)
      (c.in_ok-add_part-in-Some.ensures.gathered (parts_from before read (m + 1) (drop (m + 1) (started_by read.call)) ++ later) old);
}

pub loop-place-preserved : goal.loop-place-preserved
loop-place-preserved c = record {
  within = omega arith;
  few = c.loop-place.invariant.few;
  gathered = λ before count h later g.
      let read = plain_called c.args.called.now in
      let requests = c.started_by-requests.result.now in
      let m = c.loop-place.place - 1 in
      let listed : requests ≡ started_by read.call = c.started_by-requests.ensures in
      let old = moved read before later requests c.loop-place.place m None (omega arith) (omega arith) listed (c.in-None.ensures before read listed h)
      (λ (l : List Step). IsGathered c.args.layout.now c.args.rank c.args.calls.now l c.loop-place.self) (c.loop-place.invariant.gathered before count h later g) in
      joined read before later requests c.loop-place.place m None (omega arith) (omega arith) listed (c.in-None.ensures before read listed h)
      (λ (l : List Step). IsGathered c.args.layout.now c.args.rank c.args.calls.now l c.loop-place.self) old;
}

pub returns-clause-gathered : goal.returns-clause-gathered
returns-clause-gathered c before count h later g =
    let read = plain_called c.args.called.now in
    let zero : c.loop-place.place ≡ 0 = omega arith in
    subst (λ (l : List Step). IsGathered c.args.layout.now c.args.rank c.args.calls.now (l ++ later) c.loop-place.self)
    (ap (λ (m : ℕ). parts_from before read m (drop m (started_by read.call))) zero ∙ sym (all_parts before read c.requires.start)) (c.loop-place.invariant.gathered before count h later g)
