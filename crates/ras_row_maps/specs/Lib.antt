pub mod RowMaps
