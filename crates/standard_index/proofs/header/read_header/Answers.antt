-- `standard_index::header::read_header` meets its contract: its calls compose as the definition says, and its numbers are in range.
use Rattle.bytes_at.proofs.Stepped.{via}
use Rattle.standard_rules.specs.Header.{header_at}
use Rattle.standard_index.proofs.header.HeaderLaws.{headed_words, header_answered}
use Rattle.standard_index.proofs.header.read_header.Goals as goal

pub returns : goal.returns
unfolding header_at
returns c =
    header_answered c.args.f.now c.args.big (
    via _ c.header_room-room.ensures (
    via _ c.mark-m.ensures (
    via _ c.read_bucket_fields-b.ensures.value (
    via _ c.read_index_fields-i.ensures.value (
    via _ c.close-e.ensures c.answer_header.ensures))))) (
    rw c.answer_header.ensures (headed_words _ _ _ c.read_bucket_fields-b.ensures.words c.read_index_fields-i.ensures.words))
