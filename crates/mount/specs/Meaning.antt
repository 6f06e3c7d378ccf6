-- What things mean, to be held against appendix I of RFC 1813 and appendix A of RFC 1057. A kind has its type's name, without the 3.
pub mod Path
pub mod Options
pub mod Group
pub mod Export
pub mod Ask
pub mod Views
pub mod Same
-- made by tools/generate: meanings
pub mod Mnt
pub mod Portmap

-- end of meanings
