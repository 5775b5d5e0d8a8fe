-- The answers of calls as one number, for a host that takes numbers (document 01, "Executors": "calls reading,
-- compiling and going back with numbers and byte buffers only"), and for tests in other languages. Bits 0 to 7: a
-- refusal's number, 0 where there is none. A number is cut off at its bits; none that the host is handed is that large
-- (pod/specs/Claims).
use Rattle.std.specs.Prelude.{ℕ, ◌+◌, ◌*◌, ◌%◌}
use Rattle.base.specs.Answers.{Answer, gives, refused}
use Rattle.base.specs.Ends.{End, done, spent, fault, short, full, out_of_range, astray, Ran}
use Rattle.text.specs.declared.Sizes.{Sizes}

-- A refusal: bits 8 to 39, the place
abbrev pub packed_refusal : ℕ → ℕ → ℕ
packed_refusal number place = number + 256 * (place % 4294967296)

-- Reading and compiling: bits 8 to 23, the record count; bits 24 to 31, D; bits 32 to 39, n
abbrev pub packed_sizes : Answer Sizes → ℕ
packed_sizes (refused number place) = packed_refusal number place
packed_sizes (gives z) = 256 * (z.records % 65536) + 16777216 * (z.depth % 256) + 4294967296 * (z.cells % 256)

-- Calls that give a count: bits 8 to 23
abbrev pub packed_count : Answer ℕ → ℕ
packed_count (refused number place) = packed_refusal number place
packed_count (gives n) = 256 * (n % 65536)

-- A run: bits 8 to 15, the end; bits 16 to 47, the count; bits 48 to 55, the mark. 2 comes no more (document 02, W8)
abbrev pub end_number : End → ℕ
end_number done = 0
end_number spent = 1
end_number (fault out_of_range) = 2
end_number (fault short) = 3
end_number (fault full) = 4
end_number (fault astray) = 5

abbrev pub packed_run : Answer Ran → ℕ
packed_run (refused number place) = packed_refusal number place
packed_run (gives r) = 256 * end_number r.end + 65536 * r.count + 281474976710656 * (r.mark % 256)
