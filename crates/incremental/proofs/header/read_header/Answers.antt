-- `incremental::header::read_header` meets its contract: its calls compose as the definition says, and its numbers are in range.
use Rattle.bytes_at.proofs.Stepped.{via}
use Rattle.incremental_rules.specs.Header.{header_at}
use Rattle.incremental.proofs.header.HeaderLaws.{headed_words, header_answered}
use Rattle.incremental.proofs.header.read_header.Goals as goal

pub returns : goal.returns
unfolding header_at
returns c =
    header_answered c.args.f.now c.args.big (
    via _ c.header_room-room.ensures (
    via _ c.mark-m.ensures (
    via _ c.read_fields-h.ensures.value (
    via _ c.close-e.ensures c.answer_header.ensures)))) (
    rw c.answer_header.ensures (headed_words _ _ c.read_fields-h.ensures.words))
