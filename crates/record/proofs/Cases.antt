-- Records as bytes, and the tests of code at their limits, by computation (Cases: RecordsAsBytes, CodeLengths,
-- NotRecords).
use mathlib.Core.Path.{refl}
use Rattle.base.specs.Answers.{and_then}
use Rattle.word.specs.Numbers.{number_of, number_at, bits_of, bytes_of}
use Rattle.record.specs.Bytes.{first_byte, operand, operation, name_of, option_map, is_zero, record_of}
use Rattle.record.specs.Bytes.{in_front, records_from}
use Rattle.record.specs.Cases.{assembly_rows, machine_rows, RecordsAsBytes, CodeLengths, NotRecords}

pub records_as_bytes : RecordsAsBytes
unfolding assembly_rows machine_rows and_then number_of number_at bits_of bytes_of
    first_byte operand operation name_of option_map is_zero record_of in_front records_from
records_as_bytes = (record { written = refl; read = refl }, record { written = refl; read = refl })

pub code_lengths : CodeLengths
code_lengths = record { none = refl; four_bytes = refl; one_record = refl; most = refl; one_more = refl }

pub not_records : NotRecords
unfolding and_then number_of number_at operation name_of option_map is_zero record_of in_front records_from
not_records = record {
  below_first = refl;
  above_last = refl;
  machine_byte = refl;
  assembly_byte = refl;
  add_1 = refl;
  m_add_1 = refl;
  load_64 = refl;
  store_64 = refl;
  store_below = refl;
  m_load_0 = refl;
  m_store_0 = refl;
  m_load_3 = refl;
  m_store_3 = refl;
  first_index = refl;
}
