-- Cases A to L, and those of the little endian file, come out as RULES.md 11.2 says, by computing. Assumes nothing.
use mathlib.Core.Path.{refl}
use Rattle.bytes_at.specs.Number.{big_from, little_from, uint_of, numbers_at}
use Rattle.bytes_at.specs.Bytes.{same_bytes}
use Rattle.bytes_at.specs.Lists.{first_from, all, all_from, pairs, all_apart}
use Rattle.bytes_at.specs.Steps.{after, ◌>>=◌}
use Rattle.bytes_at.specs.Stages.{◌▷◌, or_at}
use Rattle.aipsio_rules.specs.Field.{skipped, skipped_each, judged, settled, sized_at, uint_at, ranged_at, agreed, mark_at, text_before, text_at, container_of, string_at, name_at}
use Rattle.aipsio_rules.specs.Object.{entered, opened, closed, passed, record_at, block_head_at, block_at, rows_at, row_block_at, map_at, iposition_at, axis_into, axes_at, shape_at}
use Rattle.table_rules.specs.DataType.{type_place, element_bits, with_name}
use Rattle.table_rules.specs.ColumnDesc.{column_type_of, cell_bits, column_type_at, column_head_at, column_rest_at, no_column, is_named, first_named, column_into, columns_at, notes_at, options_at, dimensions_at, elements_at, layout_at, default_at, tail_at}
use Rattle.table_rules.specs.ColumnSet.{kind_of, column_set_head_at, first_number, no_manager, manager_into, managers_at, lists_in, ssm_at, ism_at, after_object, info_at, info_into, infos_at, no_binding, binding_of, binding_at, bindings_at, sequence_at, own_shape_at, no_owner, owner_into, owners_at}
use Rattle.table_rules.specs.Table.{table_head_at, table_desc_head_at, refused_table, described_as}
use Rattle.standard_rules.specs.Index.{links, chain_ok, chain_text, chain_holds, offset_ok, index_ok, index_text, free_ok, ssm_index_at, set_into, sets_at, indexed, index_at, index_text_of}
use Rattle.standard_rules.specs.Place.{entry_of}
use Rattle.standard_rules.specs.Map.{covers, bound_to, data_of, fits, in_bucket, clear, sets_from, columns_from, map_with}
use Rattle.standard_rules.specs.Header.{bucket_fields_at, index_fields_at, headed, header_at}
use Rattle.standard_rules.specs.Check.{padded, refusal_with, checked_with}
use Rattle.lookup_rules.specs.Questions.{kind_with, target_of, file_of, plan_for, same_plan, stages_after, stages_of, place_in, answered, answer_for, room_for}
use Rattle.lookup_rules.specs.Demand.{in_standard}
use Rattle.cases.specs.SmallFile.{table_dat}
use Rattle.cases.specs.Cases.{cases_of, cases, little_cases, wide_cases, Right, LittleRight, WideRight}

pub right : Right
unfolding big_from little_from uint_of same_bytes first_from after ◌>>=◌ ◌▷◌ or_at skipped skipped_each judged settled sized_at uint_at ranged_at agreed mark_at text_before text_at container_of string_at name_at entered opened closed passed record_at block_head_at block_at rows_at row_block_at map_at iposition_at axis_into axes_at shape_at type_place element_bits with_name column_type_of cell_bits column_type_at column_head_at notes_at options_at dimensions_at elements_at layout_at default_at tail_at column_rest_at no_column is_named first_named column_into columns_at kind_of column_set_head_at first_number no_manager manager_into managers_at sequence_at own_shape_at no_owner owner_into owners_at lists_in ssm_at ism_at after_object info_at info_into infos_at no_binding binding_of binding_at bindings_at table_head_at table_desc_head_at refused_table described_as links chain_ok chain_text chain_holds offset_ok index_ok index_text free_ok all all_from pairs all_apart entry_of covers bound_to data_of fits in_bucket clear numbers_at bucket_fields_at index_fields_at headed header_at ssm_index_at set_into sets_at indexed index_at index_text_of sets_from columns_from map_with refusal_with checked_with kind_with target_of file_of place_in plan_for same_plan stages_of answered answer_for room_for stages_after padded cases_of cases
right = refl

pub little_right : LittleRight
unfolding big_from little_from uint_of same_bytes first_from after ◌>>=◌ ◌▷◌ or_at skipped skipped_each judged settled sized_at uint_at ranged_at agreed mark_at text_before text_at container_of string_at name_at entered opened closed passed record_at block_head_at block_at rows_at row_block_at map_at iposition_at axis_into axes_at shape_at type_place element_bits with_name column_type_of cell_bits column_type_at column_head_at notes_at options_at dimensions_at elements_at layout_at default_at tail_at column_rest_at no_column is_named first_named column_into columns_at kind_of column_set_head_at first_number no_manager manager_into managers_at sequence_at own_shape_at no_owner owner_into owners_at lists_in ssm_at ism_at after_object info_at info_into infos_at no_binding binding_of binding_at bindings_at table_head_at table_desc_head_at refused_table described_as links chain_ok chain_text chain_holds offset_ok index_ok index_text free_ok all all_from pairs all_apart entry_of covers bound_to data_of fits in_bucket clear numbers_at bucket_fields_at index_fields_at headed header_at ssm_index_at set_into sets_at indexed index_at index_text_of sets_from columns_from map_with refusal_with checked_with kind_with target_of file_of place_in plan_for same_plan stages_of answered answer_for room_for stages_after padded cases_of little_cases
little_right = refl

pub wide_right : WideRight
unfolding big_from little_from uint_of same_bytes first_from after ◌>>=◌ ◌▷◌ or_at skipped skipped_each judged settled sized_at uint_at ranged_at agreed mark_at text_before text_at container_of string_at name_at entered opened closed passed record_at block_head_at block_at rows_at row_block_at map_at iposition_at axis_into axes_at shape_at type_place element_bits with_name column_type_of cell_bits column_type_at column_head_at notes_at options_at dimensions_at elements_at layout_at default_at tail_at column_rest_at no_column is_named first_named column_into columns_at kind_of column_set_head_at first_number no_manager manager_into managers_at sequence_at own_shape_at no_owner owner_into owners_at lists_in ssm_at ism_at after_object info_at info_into infos_at no_binding binding_of binding_at bindings_at table_head_at table_desc_head_at refused_table described_as links chain_ok chain_text chain_holds offset_ok index_ok index_text free_ok all all_from pairs all_apart entry_of covers bound_to data_of fits in_bucket clear numbers_at bucket_fields_at index_fields_at headed header_at ssm_index_at set_into sets_at indexed index_at index_text_of sets_from columns_from map_with refusal_with checked_with kind_with target_of file_of place_in plan_for same_plan stages_of answered answer_for room_for stages_after padded cases_of wide_cases
wide_right = refl

-- the small table's manager is a StandardStMan
pub small_standard : in_standard table_dat 0
unfolding big_from little_from uint_of same_bytes first_from after ◌>>=◌ ◌▷◌ or_at skipped skipped_each judged settled sized_at uint_at ranged_at agreed mark_at text_before text_at container_of string_at name_at entered opened closed passed record_at block_head_at block_at rows_at row_block_at map_at iposition_at axis_into axes_at shape_at type_place element_bits with_name column_type_of cell_bits column_type_at column_head_at notes_at options_at dimensions_at elements_at layout_at default_at tail_at column_rest_at no_column is_named first_named column_into columns_at kind_of column_set_head_at first_number no_manager manager_into managers_at sequence_at own_shape_at no_owner owner_into owners_at lists_in ssm_at ism_at after_object info_at info_into infos_at no_binding binding_of binding_at bindings_at table_head_at table_desc_head_at refused_table described_as links chain_ok chain_text chain_holds offset_ok index_ok index_text free_ok all all_from pairs all_apart entry_of covers bound_to data_of fits in_bucket clear numbers_at bucket_fields_at index_fields_at headed header_at ssm_index_at set_into sets_at indexed index_at index_text_of sets_from columns_from map_with refusal_with checked_with kind_with target_of file_of place_in plan_for same_plan stages_of answered answer_for room_for stages_after padded
small_standard = refl
