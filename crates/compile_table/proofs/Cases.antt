-- Tables and their address marks, by computation (Cases: AddressBits, TablesPass, TablesFail).
use mathlib.Core.Path.{refl}
use Rattle.compile.specs.Table.{times, once_each}
use Rattle.compile_table.specs.AddressMarks.{address_bit, address_marks}
use Rattle.compile_table.specs.Tested.{tested}
use Rattle.compile_table.specs.Cases.{numbers, AddressBits, TablesPass, TablesFail}

pub address_bits : AddressBits
unfolding address_bit
address_bits = (refl, refl, refl, refl, refl, refl, refl)

pub tables_pass : TablesPass
unfolding address_bit address_marks times once_each tested numbers
tables_pass = (refl, refl, refl)

pub tables_fail : TablesFail
unfolding address_bit address_marks times once_each tested numbers
tables_fail = (refl, refl, refl, refl)
