-- What is asked of the small keyword sets, computed from their bytes.
use mathlib.Core.Path.{refl}
use Rattle.bytes_at.specs.Number.{big_from, uint_of}
use Rattle.bytes_at.specs.Bytes.{same_bytes}
use Rattle.bytes_at.specs.Lists.{first_from}
use Rattle.bytes_at.specs.Steps.{after, ◌>>=◌}
use Rattle.bytes_at.specs.Stages.{◌▷◌, or_at}
use Rattle.aipsio_rules.specs.Field.{skipped, skipped_each, judged, settled, sized_at, uint_at, ranged_at, text_before, text_at, string_at, name_at}
use Rattle.aipsio_rules.specs.Object.{entered, opened, closed, passed, iposition_at}
use Rattle.table_rules.specs.DataType.{type_place, element_bits, with_number}
use Rattle.keyword_rules.specs.Values.{is_keyword_type, is_array_name, array_name_at, array_opened, origin_at, length_into, lengths_at, strings_at, values_at, array_at, scalar_at, plain_at}
use Rattle.keyword_rules.specs.RecordDesc.{field_head_at, is_iposition, counted_at, shape_in_desc_at, specific_at, comment_at, field_past, desc_with, type_desc_at}
use Rattle.keyword_rules.specs.TableRecord.{whole_at, record_held_at, plain_held_at, held_at, left_at, field_once, field_into, walk_with, walk_at}
use Rattle.keyword_rules.specs.Keywords.{walked_at, search_at}
use Rattle.cases.specs.KeywordSets.{small_set, eight_deep, nine_deep, keyword_cases, KeywordsRight}

pub keywords_right : KeywordsRight
unfolding small_set eight_deep nine_deep keyword_cases big_from uint_of same_bytes first_from after ◌>>=◌ ◌▷◌ or_at skipped skipped_each judged settled sized_at uint_at ranged_at text_before text_at string_at name_at entered opened closed passed iposition_at type_place element_bits with_number is_keyword_type is_array_name array_name_at array_opened origin_at length_into lengths_at strings_at values_at array_at scalar_at plain_at field_head_at is_iposition counted_at shape_in_desc_at specific_at comment_at field_past desc_with type_desc_at whole_at record_held_at plain_held_at held_at left_at field_once field_into walk_with walk_at walked_at search_at
keywords_right = refl
