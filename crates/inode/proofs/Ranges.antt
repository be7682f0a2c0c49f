-- Ranges of bytes: the laws that the layers above are told.
use Rattle.std.proofs.Common.{◌+◌, ◌-◌, min, refl}
use Rattle.inode.specs.Contents.{listed, byte_of}
use Rattle.inode.specs.Laws.{RangesJoin, ARangeHasParts, AListIsARange, EqualRanges, BytesFromAnOffset}
use Rattle.inode.proofs.Listing.{listed-is, listed-same, listed-join, listed-between}
use Rattle.inode.proofs.ReadBytes.{read_is}

pub ranges_join : RangesJoin
ranges_join f first count more = listed-join f first count (first + count) more refl

pub parts : ARangeHasParts
parts f first count skip n le = listed-between f first count skip n (first + skip) refl le

pub list_is : AListIsARange
list_is f first count bytes len each = listed-is f first count bytes len each

pub equal_ranges : EqualRanges
equal_ranges f g first second count each = listed-same f g first second count each

pub from_an_offset : BytesFromAnOffset
from_an_offset contents i offset len = read_is contents i offset len (min len (i.size - offset)) (listed (byte_of contents i) offset (min len (i.size - offset))) refl refl
