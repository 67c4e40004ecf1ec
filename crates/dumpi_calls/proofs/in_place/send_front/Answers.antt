use Rattle.dumpi_calls.proofs.InPlace.{send_told}
use Rattle.dumpi_calls.proofs.in_place.send_front.Goals as goal

pub returns : goal.returns
returns c =
    send_told c.args.text.now c.in_ok-count.rest.now c.in_ok-datatype.rest.now c.in_ok-dest.rest.now c.in_ok-tag.rest.now c.in_ok-comm.rest.now
    c.in_ok-count.count c.in_ok-datatype.datatype c.in_ok-dest.dest c.in_ok-tag.tag c.in_ok-comm.comm
    c.in_ok-elements.elements c.in_ok-asked.asked c.in_ok-peer.peer c.in_ok-group.group c.sent.result
    c.in_ok-count.ensures c.in_ok-datatype.ensures c.in_ok-dest.ensures c.in_ok-tag.ensures c.in_ok-comm.ensures
    c.in_ok-elements.ensures.value c.in_ok-peer.ensures.value c.in_ok-asked.ensures.value c.in_ok-group.ensures.value c.sent.ensures
