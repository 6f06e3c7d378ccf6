pub mod Hex
pub mod Decimal
pub mod HexLaws
pub mod DecimalLaws
pub mod One
