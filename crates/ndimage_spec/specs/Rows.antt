-- Worked rows about requests.
--   NdimageSpecRows   the rows, of the requests, their parts and faults
use Rattle.std.specs.Prelude.{◌≡◌, true, false, [], ◌∷◌, map, Some, None, replicate}
use Prim.Native.Char.{code}
use Rattle.words.specs.Words.{bytes_of, place_in}
use Rattle.ndimage_spec.specs.Requests.{request_of, parts_of}
use Rattle.ndimage_spec.specs.Parts.{nowhere, part, part_of, times_of, is_float, slot_of, words_for, last_after}
use Rattle.ndimage_spec.specs.Reading.{token_in, end_behind, no_line}
use Rattle.ndimage_spec.specs.Hexadecimal.{bad_bytes, byte_count, bytes_over}
use Rattle.ndimage_spec.specs.Faults.{fault_number, fault_slot, text_of, shows_token, fault_of, visible_of}
use Rattle.ndimage_spec.specs.declared.Fault.TheVariants as Of
use Rattle.ndimage_spec.specs.declared.Kind.TheVariants.{Form, Border, Padding, Kernel, Count}
use Rattle.ndimage_spec.specs.declared.Kind.TheVariants.{Whole, Level, Bytes}
use Rattle.ndimage_spec.specs.declared.Times.TheVariants.{Once, Last, TwiceLast, SixLast}

pub record NdimageSpecRows : Type 0 where
  -- the number of a request; no word but those names one, and nothing names none
  pub correlate : request_of (bytes_of "correlate") ≡ Some 0
  pub convolve : request_of (bytes_of "convolve") ≡ Some 1
  pub correlate1d : request_of (bytes_of "correlate1d") ≡ Some 2
  pub convolve1d : request_of (bytes_of "convolve1d") ≡ Some 3
  pub minimum1d : request_of (bytes_of "minimum_filter1d") ≡ Some 4
  pub maximum1d : request_of (bytes_of "maximum_filter1d") ≡ Some 5
  pub minimum : request_of (bytes_of "minimum_filter") ≡ Some 6
  pub maximum : request_of (bytes_of "maximum_filter") ≡ Some 7
  pub uniform : request_of (bytes_of "uniform_filter") ≡ Some 8
  pub uniform1d : request_of (bytes_of "uniform_filter1d") ≡ Some 9
  pub prewitt : request_of (bytes_of "prewitt") ≡ Some 10
  pub sobel : request_of (bytes_of "sobel") ≡ Some 11
  pub pad : request_of (bytes_of "pad") ≡ Some 12
  pub pad_to : request_of (bytes_of "pad_to") ≡ Some 13
  pub median : request_of (bytes_of "median_filter") ≡ Some 14
  pub play : request_of (bytes_of "play") ≡ Some 15
  pub symmetry : request_of (bytes_of "symmetry") ≡ Some 16
  pub kernel3d : request_of (bytes_of "kernel3d") ≡ Some 17
  pub read_recipe : request_of (bytes_of "read_recipe") ≡ Some 18
  pub write_recipe : request_of (bytes_of "write_recipe") ≡ Some 19
  pub help : request_of (bytes_of "help") ≡ Some 20
  pub parts_no_word : request_of (bytes_of "FCD") ≡ None
  pub longer : request_of (bytes_of "pads") ≡ None
  pub nothing : request_of [] ≡ None
  -- the parts of a request in the order of reading: the border, its constant, the origin, the output
  pub correlate_parts : parts_of 0 ≡ bytes_of "ALCDSKNWBVOE"
  pub minimum1d_parts : parts_of 4 ≡ bytes_of "ALCDZXBVOE"
  pub minimum_parts : parts_of 6 ≡ bytes_of "ALCDZBVbvcwOET"
  pub maximum_parts : parts_of 7 ≡ bytes_of "ALCDZBVbvcwOET"
  pub uniform_parts : parts_of 8 ≡ bytes_of "ALCDZBVbvcwET"
  pub prewitt_parts : parts_of 10 ≡ bytes_of "ALCDXBVbvcwET"
  pub sobel_parts : parts_of 11 ≡ bytes_of "ALCDXBVbvcwET"
  pub pad_to_parts : parts_of 13 ≡ bytes_of "ALCDPVRQEH"
  pub play_parts : parts_of 15 ≡ bytes_of "GALCDET"
  pub symmetry_parts : parts_of 16 ≡ bytes_of "FCD"
  pub write_recipe_parts : parts_of 19 ≡ bytes_of "JYUE"
  pub help_parts : parts_of 20 ≡ []
  pub no_request : parts_of 21 ≡ []
  -- what is read for a part
  pub lengths_part : part_of (code "L") ≡ part Count Last 20 4
  pub weights_part : part_of (code "W") ≡ part Level Last 8193 344
  pub border_part : part_of (code "B") ≡ part Border Once 15 1
  pub mode_part : part_of (code "P") ≡ part Padding Once 15 1
  pub constant_part : part_of (code "V") ≡ part Level Last 8537 1
  pub border_1_part : part_of (code "b") ≡ part Border Once 36 1
  pub constant_1_part : part_of (code "v") ≡ part Level Last 41404 1
  pub border_2_part : part_of (code "c") ≡ part Border Once 37 1
  pub constant_2_part : part_of (code "w") ≡ part Level Last 41405 1
  pub origin_part : part_of (code "O") ≡ part Whole Once 8538 1
  pub pads_part : part_of (code "Q") ≡ part Count TwiceLast 28 6
  pub file-part : part_of (code "G") ≡ part Bytes Once 19 1
  pub steps_part : part_of (code "U") ≡ part Whole SixLast 41308 96
  pub no_part : part_of (code "a") ≡ part Count Once nowhere 0
  -- three lengths are three tokens, two pairs four, two steps twelve
  pub three_lengths : times_of Last 3 ≡ 3
  pub two_pairs : times_of TwiceLast 2 ≡ 4
  pub most_pairs : times_of TwiceLast nowhere ≡ nowhere
  pub two_steps : times_of SixLast 2 ≡ 12
  -- the constant of a border stands behind `constant` alone
  pub after_constant : times_of Last (last_after 0) ≡ 1
  pub after_mirror : times_of Last (last_after 1) ≡ 0
  -- levels are floats under f, an origin never
  pub level_f : is_float Level 1 ≡ true
  pub level_i : is_float Level 0 ≡ false
  pub origin_f : is_float Whole 1 ≡ false
  -- the last number that is kept, and the next
  pub fourth_length : slot_of 20 4 3 ≡ 23
  pub fifth_length : slot_of 20 4 4 ≡ nowhere
  -- words by the part's kind
  pub form_f : place_in (words_for Form) (bytes_of "f") ≡ Some 1
  pub mirror_border : place_in (words_for Border) (bytes_of "mirror") ≡ Some 1
  pub mirror_mode : place_in (words_for Padding) (bytes_of "mirror") ≡ None
  -- what is wrong, in words
  pub unknown : text_of 1 ≡ bytes_of "unknown request"
  pub missing : text_of 2 ≡ bytes_of "missing token"
  pub fault_slots : map fault_slot (None ∷ Some Of.Request ∷ Some Of.Field ∷ []) ≡ 0 ∷ 1 ∷ 15 ∷ []
  pub missing_token : text_of (fault_number Of.Missing) ≡ bytes_of "missing token"
  pub odd_mask : text_of (fault_number Of.Mask) ≡ bytes_of "a cell of a mask is neither 0 nor 1"
  pub no_number : text_of (fault_of Count) ≡ bytes_of "not a number: "
  pub no_mode : text_of (fault_of Border) ≡ bytes_of "unknown mode: "
  pub no_kernel : text_of (fault_of Kernel) ≡ bytes_of "unknown kernel: "
  pub no_form : text_of (fault_of Form) ≡ bytes_of "neither i nor f: "
  pub empty : text_of 11 ≡ bytes_of "empty line"
  pub no_bytes : text_of (fault_of Bytes) ≡ bytes_of "not bytes in hexadecimal: "
  pub many_steps : text_of 14 ≡ bytes_of "too many steps"
  pub mode_shown : shows_token (text_of 5) ≡ true
  pub missing_bare : shows_token (text_of 2) ≡ false
  pub tab_shown : visible_of 9 ≡ 63
  pub letter_shown : visible_of 97 ≡ 97
  -- a token of 256 bytes is whole, a longer one is nothing
  pub token_in_lem : token_in (97 ∷ 98 ∷ 99 ∷ []) 2 ≡ 97 ∷ 98 ∷ []
  pub token_whole : token_in (replicate 260 49) 256 ≡ replicate 256 49
  pub token_long : token_in (replicate 260 49) 257 ≡ []
  pub full_buffer : end_behind 65536 ≡ 65792
  pub beyond_buffer : end_behind 65537 ≡ 256
  -- the state begins with the next byte, the end, the bytes of the line, those of the token, and the stage
  pub last_line : no_line (64 ∷ 64 ∷ 5 ∷ 0 ∷ 3 ∷ []) ≡ false
  pub behind_last : no_line (64 ∷ 64 ∷ 0 ∷ 0 ∷ 3 ∷ []) ≡ true
  pub empty_line : no_line (64 ∷ 64 ∷ 0 ∷ 0 ∷ 2 ∷ []) ≡ false
  -- bytes: pairs of digits, the high one first; large letters, an odd digit and nothing stand for none
  pub two_bytes : bytes_over (bytes_of "4c0a") (7 ∷ 7 ∷ 7 ∷ []) ≡ 76 ∷ 10 ∷ 7 ∷ []
  pub last_byte : bytes_over (bytes_of "00ff") (7 ∷ 7 ∷ []) ≡ 0 ∷ 255 ∷ []
  pub short_list : bytes_over (bytes_of "0102") (7 ∷ []) ≡ 1 ∷ []
  pub good_bytes : bad_bytes (bytes_of "4c0a") ≡ false
  pub no_bytes_dash : bad_bytes (bytes_of "-") ≡ false
  pub dash_count : byte_count (bytes_of "-") ≡ 0
  pub two_count : byte_count (bytes_of "4c0a") ≡ 2
  pub odd_digit : bad_bytes (bytes_of "4c0") ≡ true
  pub large_letter : bad_bytes (bytes_of "4C") ≡ true
  pub two_dashes : bad_bytes (bytes_of "--") ≡ true
