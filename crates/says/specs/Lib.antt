-- The specification: what each exported call says, in the documents' words and numerals, and nothing else. This folder, and the types and `bit_at` that it
-- imports, is what must be believed; no theorem and no law stands here. That each call says its sentences (`meets`) and that they leave one outcome (`decides`)
-- is proved in the crates meets_.., and each call's own `ensures` is its sentence (crates/denkumari).
--
-- To read it, take Words first: refusals tried one after another, the first that is so. Then Banks and Build, `dk_build`: bottom up as the file goes, or from
-- `BuildSays` at its end backwards. `dk_profile`, `dk_build_paged` and `dk_map` go on from there (Profile, Paged, Map). The others stand by themselves:
-- Store is `dk_offer`, Offers over it `dk_offers`, Blocks, Part and Hex are `dk_blocks`, `dk_part` and `dk_hex`, Overlay the two calls of the bench, Verify
-- is `dk_verify`. Files is what a layout file holds, under Form and FormPaged (`dk_form`, `dk_form_paged`) and Convert (`dk_to_form1`, `dk_to_form2`). Records
-- is what Intel HEX and S-records share, under Write (`dk_write_hex`, `dk_write_srec`), Read (`dk_read_records`, `dk_record_fault`), Extent
-- (`dk_record_extent`) and Reason (`dk_record_reason`).
-- What programs print is said over these: Lines is a line of text, Report what `layout` prints, RecordsText the program behind tools/ihex and tools/srec,
-- Texts what `prog_reason`, `prog_convert` and `prog_rehex` print, MapText what `prog_map` prints, Bench what `prog_overlay` prints.
pub mod Words
pub mod Banks
pub mod Build
pub mod Profile
pub mod Paged
pub mod Map
pub mod Store
pub mod Offers
pub mod Blocks
pub mod Part
pub mod Hex
pub mod Overlay
pub mod Verify
pub mod Files
pub mod Form
pub mod FormPaged
pub mod Convert
pub mod Records
pub mod Write
pub mod Read
pub mod Extent
pub mod Reason
pub mod Lines
pub mod Report
pub mod RecordsText
pub mod Texts
pub mod Bench
pub mod MapText
